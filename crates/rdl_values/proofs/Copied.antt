-- A reference is there exactly where the value behind it is.
use Rattle.std.proofs.Common.{◌≡◌, Bor, None, Option, Some, is_none, option_copied, refl}

pub none_copied : {X : Type 0} (o : Option (Bor X)) → is_none (option_copied o) ≡ is_none o
none_copied None = refl
none_copied (Some x) = refl

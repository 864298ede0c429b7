-- Lemmas on optional values.
use Rattle.std.proofs.Common.{◌≡◌, ℕ, Option, None, Some, refl, false, is_some, true, IfSome, subst, IsSome}
use Rattle.std.specs.Option.{option_or, option_copied}
use Rattle.std.specs.Borrow.{Bor}

pub option_or-none : (o : Option ℕ) → o ≡ option_or o None
option_or-none None = refl
option_or-none (Some k) = refl

pub option_or-second : (o p : Option ℕ) → is_some o ≡ false → p ≡ option_or o p
option_or-second None p e = refl
option_or-second (Some k) p e = cc

pub option_or-first : (o p : Option ℕ) → is_some o ≡ true → o ≡ option_or o p
option_or-first None p e = cc
option_or-first (Some k) p e = refl

pub if_some-at : {A : Type 0} (o : Option A) (P : A → Type 0) (x : A) → IfSome o P → o ≡ Some x → P x
if_some-at (Some y) P x h e = let same : y ≡ x = cc in subst P same h
if_some-at None P x h e = cc

pub if_some-map : {A : Type 0} (o : Option A) (P Q : A → Type 0) → ((x : A) → P x → Q x) → IfSome o P → IfSome o Q
if_some-map None P Q f h = tt
if_some-map (Some x) P Q f h = f x h

pub is_some-false : {X : Type 0} (o : Option X) → is_some o ≡ false → o ≡ None
is_some-false None e = refl
is_some-false (Some x) e = cc e

pub some_is : {A : Type 0} (o : Option A) → IsSome o → (x : A) × (o ≡ Some x)
some_is None h = cc h
some_is (Some x) h = (x, refl)

pub some_copied : {X : Type 0} (o : Option (Bor X)) → is_some (option_copied o) ≡ is_some o
some_copied None = refl
some_copied (Some x) = refl

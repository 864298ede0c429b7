-- Tests as bits.
use Rattle.std.proofs.Common.{◌≡◌, ◌==◌, Bool, true, false, refl}
use Rattle.rtl_net.specs.Value.{bit_of}
use Rattle.rtl_net.proofs.Nets.{Grows-refl, Grows-trans}

pub bit_is_one : (b : Bool) → (bit_of b == 1) ≡ b
bit_is_one true = refl
bit_is_one false = refl

pub ruleset bits = (Grows-trans, Grows-refl, bit_is_one)

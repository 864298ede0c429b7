-- Numbers that settings say.
use Rattle.std.proofs.Common.{◌≡◌, ℕ, List, refl}
use Rattle.rdl_values.specs.Instances.{Instance}
use Rattle.rdl_layers.specs.Forms.{Meaning, number}
use Rattle.rdl_layers.specs.Phase4.{number_in}
use Rattle.rdl_layers.specs.Says.{Says}
use Rattle.rdl_layers.specs.declared.setting.Setting.{Setting}
use Rattle.rdl_layers.specs.declared.setting.Setting.TheVariants as set

pub number_said : (all : List Instance) (k : ℕ) (m : Meaning) → Says all (set.Number k) m → k ≡ number_in m
number_said all k (number n) h = h
number_said all k m h = absurd h

pub none_said : (all : List Instance) (s : Setting) (m : Meaning) → ((k : ℕ) → s ≡ set.Number k → ⊥) → Says all s m → 0 ≡ number_in m
none_said all (set.Number j) m other h = absurd (other j refl)
none_said all s (number n) other h = absurd h
none_said all s m other h = refl

-- Modules whose values have at most 64 bits.
use Rattle.std.specs.Prelude.{ℕ, ◌≤◌, ◌%◌, ◌^◌, List, map}
use Rattle.std.specs.List.{AllByRecursion}
use Rattle.rb_base.specs.declared.ports.Pin.{Pin}
use Rattle.v_design.specs.Design.{Module, inputs, registers}

-- the lowest 64 bits of each number
abbrev pub low_all : List ℕ → List ℕ
low_all numbers = map (λ x. x % 2 ^ 64) numbers

-- none of these pins has more than 64 bits
abbrev pub AreNarrow : List Pin → Type 0
AreNarrow pins = AllByRecursion (λ p. p.width ≤ 64) pins

-- no pin and no register of a module has more than 64 bits
pub record IsNarrowModule (m : Module) : Type 0 where
  pub pins : AreNarrow (inputs m)
  pub contents : AreNarrow (registers m)

-- The places of a block's input pins, by name.
use Rattle.std.specs.Prelude.{◌≡◌, ℕ, Option, Some, IsSome, List, length, slice_get}
use Rattle.std.specs.BTreeMap.{BTreeMap, get_by}
use Rattle.std.specs.Cmp.Lexicographic.{slice_cmp}
use Rattle.std.specs.Ordering.{nat_cmp}
use denote.Ref.{Bor}
use Rattle.rb_base.specs.declared.ports.Pin.{Pin}
use Rattle.rb_model.specs.Ports.{input_pins}
use Rattle.rb_model.specs.Sound.{IsSound}
use Rattle.block_plan.specs.declared.places.Places.{Places}

-- places by name
abbrev pub Known : Type 0
Known = BTreeMap (Bor (List ℕ)) ℕ

-- the place of a name, if it has one
abbrev pub known_at : Known → List ℕ → Option ℕ
known_at known name = get_by (λ k. slice_cmp nat_cmp name k.now) known

-- the names of these pins have their places, and no other name has one
pub record AreKnown (pins : List Pin) (known : Known) : Type 0 where
  pub right : (name : List ℕ) (place : ℕ) → known_at known name ≡ Some place → (p : Pin) × (slice_get pins place ≡ Some p) × (p.name ≡ name)
  pub every : (place : ℕ) (p : Pin) → slice_get pins place ≡ Some p → IsSome (known_at known p.name)

-- the places are those of a sound block's input pins
pub record ArePlaces (p : Places) : Type 0 where
  pub sound : IsSound p.block.now
  pub known : AreKnown (input_pins p.block.now) p.known
  pub end : p.end ≡ length (input_pins p.block.now)

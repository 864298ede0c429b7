-- How far a module is compiled.
use Rattle.std.specs.Prelude.{◌≡◌, ℕ, ◌+◌, ◌<◌, true, Option, Some, None, IsSome, List, ◌++◌, length, slice_get, slice_index}
use Rattle.std.specs.List.{AllZip}
use Rattle.rb_base.specs.declared.ports.Pin.{Pin}
use Rattle.v_design.specs.Expr.{Values}
use Rattle.v_design.specs.Design.{Module, Reset, Step, inputs, registers, widths}
use Rattle.v_design.specs.Run.{IsSettled, Moves, values_at, under_reset}
use Rattle.v_design.specs.Fits.{FitsPins}
use Rattle.cyc_sim.specs.Operations.{values_after}
use Rattle.cyc_sim.specs.Compiled.{Known, known_at, end_of, AreBelow, AreWidths, Agrees, Extends}
use Rattle.cyc_sim.specs.declared.listing.Wire.{Wire}
use Rattle.cyc_sim.specs.declared.listing.Listing.{Listing}

-- the values of the first places, pins and then the registers' contents, at an edge of a module, the values of the
-- nets there, and the registers' contents after it
pub record IsSettling (m : Module) (base : List ℕ) (v after : Values) : Type 0 where
  pub contents : Values
  pub pins : List ℕ
  pub numbers : List ℕ
  pub is : base ≡ pins ++ numbers
  pub pins_fit : FitsPins (inputs m) pins
  pub numbers_fit : FitsPins (registers m) numbers
  pub given : values_at v (inputs m) ≡ pins
  pub kept : values_at contents (registers m) ≡ numbers
  pub settled : IsSettled (widths m) contents v m.steps
  pub moved : Moves (widths m) v after m.steps

-- each of these pins has a place
abbrev pub KnowsPins : Known → List Pin → Type 0
KnowsPins known pins = (i : ℕ) (p : Pin) → slice_get pins i ≡ Some p → IsSome (known_at known p.name)

-- each register, and each net, that a step drives has a place
abbrev pub KnowsRegisters : Known → List Step → Type 0
KnowsRegisters known ss = (i : ℕ) (s : Step) → slice_get ss i ≡ Some s → s.clocked ≡ true → IsSome (known_at known s.to)

abbrev pub KnowsNets : Known → List Step → Type 0
KnowsNets known ss = (i : ℕ) (s : Step) → slice_get ss i ≡ Some s → IsSome (known_at known s.to)

-- the pin of a reset has a place
abbrev pub KnowsReset : Known → Option Reset → Type 0
KnowsReset known None = Unit {0}
KnowsReset known (Some r) = IsSome (known_at known r.pin)

-- each pin has a place, and each name is that of a pin, and has the pin's place behind the first
pub record ArePlaced (pins : List Pin) (first : ℕ) (known : Known) : Type 0 where
  pub each : KnowsPins known pins
  pub placed : (name : List ℕ) (w : Wire) → known_at known name ≡ Some w
      → (i : ℕ) × (p : Pin) × (slice_get pins i ≡ Some p) × (p.name ≡ name) × (w.place ≡ first + i) × (w.width ≡ p.width)

-- the nets that have a place have their values there at each edge
pub record Prepared (m : Module) (known : Known) (listing : Listing) : Type 0 where
  pub first : listing.first ≡ length (inputs m) + length (registers m)
  pub below : AreBelow known (end_of listing)
  pub wide : AreWidths known (widths m)
  pub agrees : (base : List ℕ) (v after : Values) → IsSettling m base v after → Agrees known listing.operations.items base v

-- the registers that have a place have there what they contain after an edge
pub record Moving (m : Module) (moves : Known) (listing : Listing) : Type 0 where
  pub below : AreBelow moves (end_of listing)
  pub value : (base : List ℕ) (v after : Values) → IsSettling m base v after → (name : List ℕ) (w : Wire) → known_at moves name ≡ Some w
      → slice_index (values_after listing.operations.items base) w.place ≡ after name

-- a wire's place has another wire's value, or a reset's constant where the reset is asserted
pub record Guards (known : Known) (reset : Option Reset) (next : Wire) (old new : Listing) (w : Wire) : Type 0 where
  pub extends : Extends old new
  pub below : w.place < end_of new
  pub width : w.width ≡ next.width
  pub value : (v : Values) (base : List ℕ) (x : ℕ) → length base ≡ old.first → Agrees known old.operations.items base v
      → slice_index (values_after old.operations.items base) next.place ≡ x
      → slice_index (values_after new.operations.items base) w.place ≡ under_reset v reset x

-- these are the places of pins' names
abbrev pub ArePlacesOf : Known → List Pin → List ℕ → Type 0
ArePlacesOf known pins places = AllZip (λ p place. (w : Wire) × (known_at known p.name ≡ Some w) × (w.place ≡ place)) pins places

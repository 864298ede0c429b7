-- The vectors of a table for a block have the bus's pins, and they come first.
use Rattle.std.specs.List.{AllByRecursion}
use Rattle.std.proofs.Common.{◌≡◌, ℕ, zero, suc, ◌<◌, ◌≤◌, List, [], ◌∷◌, length, map, get_or, refl, ap, arith}
use Rattle.rb_base.specs.declared.ports.Pin.{Pin}
use Rattle.v_design.specs.Fits.{FitsPins, AllFit}
use Rattle.rb_model.specs.declared.block.Block.{Block}
use Rattle.rb_model.specs.Ports.{input_pins}
use Rattle.rb_model.specs.Protocol.{bus_of}
use Rattle.rb_model.specs.Run.{buses, pins_of}
use Rattle.stim_csv.specs.Buses.{HasBus, bus_first}

fits_length : (ps : List Pin) (xs : List ℕ) → FitsPins ps xs → length xs ≡ length ps
fits_length [] [] h = refl
fits_length [] (x ∷ xs) h = absurd h
fits_length (p ∷ ps) [] h = absurd h
fits_length (p ∷ ps) (x ∷ xs) h = ap suc (fits_length ps xs h.1)

pub vector_fits : (ps : List Pin) (vectors : List (List ℕ)) (i : ℕ) → AllFit ps vectors → i < length vectors → FitsPins ps (get_or vectors i [])
vector_fits ps [] i f l = absurd (omega (arith, l))
vector_fits ps (v ∷ vs) zero f l = f.0
vector_fits ps (v ∷ vs) (suc i) f l = vector_fits ps vs i f.1 (omega (arith, l))

-- a vector has a number for each of them
has_bus : (b : Block) (x : List ℕ) → FitsPins (input_pins b) x → HasBus x
has_bus b x h = let many : 6 ≤ length (input_pins b) = omega arith in omega (arith, many, fits_length (input_pins b) x h)

pub have_buses : (b : Block) (vectors : List (List ℕ)) → AllFit (input_pins b) vectors → AllByRecursion HasBus vectors
have_buses b [] h = tt
have_buses b (x ∷ xs) h = (has_bus b x h.0, have_buses b xs h.1)

-- the pins of the bus come first
first_bus : (b : Block) (x : List ℕ) → HasBus x → bus_first x ≡ bus_of (pins_of b x)
first_bus b (n0 ∷ n1 ∷ n2 ∷ n3 ∷ n4 ∷ n5 ∷ more) h = refl
first_bus b (n0 ∷ n1 ∷ n2 ∷ n3 ∷ n4 ∷ []) h = absurd (omega (arith, h))
first_bus b (n0 ∷ n1 ∷ n2 ∷ n3 ∷ []) h = absurd (omega (arith, h))
first_bus b (n0 ∷ n1 ∷ n2 ∷ []) h = absurd (omega (arith, h))
first_bus b (n0 ∷ n1 ∷ []) h = absurd (omega (arith, h))
first_bus b (n0 ∷ []) h = absurd (omega (arith, h))
first_bus b [] h = absurd (omega (arith, h))

pub first_buses : (b : Block) (vectors : List (List ℕ)) → AllFit (input_pins b) vectors → map bus_first vectors ≡ buses b vectors
first_buses b [] h = refl
first_buses b (x ∷ xs) h = λ i. first_bus b x (has_bus b x h.0) i ∷ first_buses b xs h.1 i

-- The inputs of a block, and the vectors of a table for them.
use Rattle.std.specs.List.{AllByRecursion, AllPairs}
use Rattle.std.proofs.Common.{◌≡◌, ◌≢◌, ℕ, Ok, List, [], ◌∷◌, length, map, sym, arith}
use Rattle.std.proofs.lemmas.List.Elements.{All-from_recursion}
use Rattle.std.proofs.lemmas.List.Kept.{AllPairs-cons}
use Rattle.rb_base.specs.declared.ports.Pin.{Pin}
use Rattle.v_design.specs.Fits.{AllFit}
use Rattle.rb_model.specs.declared.block.Block.{Block}
use Rattle.rb_model.specs.Ports.{input_pins}
use Rattle.rb_model.specs.References.{Each}
use Rattle.rb_model.specs.Sound.{IsSound}
use Rattle.rb_model.proofs.Apart.{Apart}
use Rattle.rb_model.proofs.InputPins.{input_names_apart}
use Rattle.stim_csv.specs.PinTable.{records_of}
use Rattle.stim_csv.proofs.Fitting.{vectors_fit}
use Rattle.machine_run.specs.Runs.{output_pins, table_for}

unlike : (p : Pin) (ps : List Pin) → Each (λ m. m ≡ p.name → ⊥) (map (λ q. q.name) ps) → AllByRecursion (λ q. p.name ≢ q.name) ps
unlike p [] h = tt
unlike p (q ∷ ps) h = (λ e. h.0 (sym e), unlike p ps h.1)

none_apart : AllPairs {X = Pin} (λ p q. p.name ≢ q.name) []
none_apart i j d l k = absurd (omega (arith, k))

pairs_apart : (ps : List Pin) → Apart (map (λ p. p.name) ps) → AllPairs (λ p q. p.name ≢ q.name) ps
pairs_apart [] h = none_apart
pairs_apart (p ∷ ps) h = AllPairs-cons (λ x y. x.name ≢ y.name) p ps (All-from_recursion (λ q. p.name ≢ q.name) ps (unlike p ps h.0)) (pairs_apart ps h.1)

-- the inputs of a sound block have names that differ
pub inputs_apart : (b : Block) → IsSound b → AllPairs (λ p q. p.name ≢ q.name) (input_pins b)
inputs_apart b sound = pairs_apart (input_pins b) (input_names_apart b sound)

pub tables_fit : (b : Block) → IsSound b → (stimulus : List ℕ) (vectors : List (List ℕ)) → table_for b stimulus ≡ Ok vectors → AllFit (input_pins b) vectors
tables_fit b sound stimulus vectors e = vectors_fit (input_pins b) (inputs_apart b sound) (length (output_pins b)) (records_of stimulus) vectors e

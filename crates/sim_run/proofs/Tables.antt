-- The pins of a module that was read, for a table.
use Rattle.std.specs.List.{AllByRecursion, AllPairs}
use Rattle.std.specs.Str.{bytes_eq}
use Rattle.std.proofs.Common.{◌≡◌, ◌≢◌, ◌⊎◌, ℕ, suc, ◌≤◌, Bool, true, false, not, Ok, Err, List, [], ◌∷◌, ◌++◌, length, map, replicate, refl, ap, sym, subst, arith, inl, inr}
use Rattle.std.proofs.lemmas.List.Elements.{All-from_recursion}
use Rattle.std.proofs.lemmas.List.Kept.{AllPairs-cons}
use Rattle.std.proofs.lemmas.Nat.{pow_pos}
use Rattle.rb_base.specs.declared.ports.Pin.{Pin}
use Rattle.rb_base.specs.declared.ports.Port.{Port}
use Rattle.v_design.specs.declared.design.Design.{Design}
use Rattle.v_design.specs.Lexemes.{among}
use Rattle.v_design.specs.Design.{inputs, outputs, inputs_among, outputs_among, is_data_input, is_output, port_pin}
use Rattle.v_design.specs.WellFormed.{IsWellFormed, distinct, names, nets, port_net, decl_net}
use Rattle.v_design.specs.WellFormed as formed
use Rattle.v_design.specs.Run.{values_at}
use Rattle.v_design.specs.Fits.{FitsPins, AllFit}
use Rattle.v_design.specs.Seen.{module_seen}
use Rattle.v_design.proofs.Tests.{and-left, and-right, same-refl}
use Rattle.v_design.proofs.Names.{not-flip, or-false-left, or-false-right, apart-absurd}
use Rattle.stim_csv.specs.PinTable.{table_of, records_of}
use Rattle.stim_csv.specs.declared.error.StimError.{StimError}
use Rattle.stim_csv.proofs.Fitting.{vectors_fit}
use Rattle.v_reader.specs.Reading.{IsDesign}
use Rattle.report_text.specs.Problems.{problem_text}
use Rattle.sim_run.specs.Simulated.{zeros, IsModule, IsReady, IsSimulated, IsProblem, IsRunText}

output_step : (b : Bool) (p : Port) (ps : List Port) → is_output p ≡ b → length (outputs_among ps) ≤ length ps → length (outputs_among (p ∷ ps)) ≤ suc (length ps)
output_step true p ps e l = rw e (omega (arith, l))
output_step false p ps e l = rw e (omega (arith, l))

outputs_few : (ps : List Port) → length (outputs_among ps) ≤ length ps
outputs_few [] = omega arith
outputs_few (p ∷ ps) = output_step (is_output p) p ps refl (outputs_few ps)

pub outputs_below : (bytes : List ℕ) (d : Design) (n : ℕ) → length d.ports.items ≤ n → length (outputs (module_seen d)) ≤ n
outputs_below bytes d n l = let few = outputs_few d.ports.items in omega (arith, few, l)

-- an input is the first of more, or not among them
input_step : (b : Bool) (p : Port) (ps : List Port) → is_data_input p ≡ b → (inputs_among (p ∷ ps) ≡ port_pin p ∷ inputs_among ps) ⊎ (inputs_among (p ∷ ps) ≡ inputs_among ps)
input_step true p ps e = inl (rw e refl)
input_step false p ps e = inr (rw e refl)

-- a name that is none of these is that of no input among them
unlike : (n : List ℕ) (ps : List Port) (ds : List formed.Net) → among (names (map port_net ps ++ ds)) n ≡ false → AllByRecursion (λ q. n ≢ q.name) (inputs_among ps)
unlike n [] ds h = tt
unlike n (p ∷ ps) ds h =
    let first : bytes_eq p.name n ≡ false = or-false-left (bytes_eq p.name n) (among (names (map port_net ps ++ ds)) n) h in
    let rest = unlike n ps ds (or-false-right (bytes_eq p.name n) (among (names (map port_net ps ++ ds)) n) h) in
    elim (input_step (is_data_input p) p ps refl) [
      | inl e ↦ rw e ((λ same. apart-absurd (bytes_eq p.name n) (subst (λ z. bytes_eq p.name z ≡ true) (sym same) (same-refl p.name)) first), rest)
      | inr e ↦ rw e rest
    ]

none_apart : AllPairs {X = Pin} (λ p q. p.name ≢ q.name) []
none_apart i j d l k = absurd (omega arith)

inputs_apart : (ps : List Port) (ds : List formed.Net) → distinct (names (map port_net ps ++ ds)) ≡ true → AllPairs (λ p q. p.name ≢ q.name) (inputs_among ps)
inputs_apart [] ds h = none_apart
inputs_apart (p ∷ ps) ds h =
    let ns = names (map port_net ps ++ ds) in
    let rest = inputs_apart ps ds (and-right (not (among ns p.name)) (distinct ns) h) in
    let other = unlike p.name ps ds (not-flip (among ns p.name) (and-left (not (among ns p.name)) (distinct ns) h)) in
    elim (input_step (is_data_input p) p ps refl) [
      | inl e ↦ rw e (AllPairs-cons (λ x y. x.name ≢ y.name) (port_pin p) (inputs_among ps) (All-from_recursion (λ q. p.name ≢ q.name) (inputs_among ps) other) rest)
      | inr e ↦ rw e rest
    ]

-- the inputs of a module that was read have names that differ
pub apart : (bytes : List ℕ) (d : Design) → IsDesign bytes d → AllPairs (λ p q. p.name ≢ q.name) (inputs (module_seen d))
apart bytes d h = subst (λ m. AllPairs (λ p q. p.name ≢ q.name) (inputs m)) (sym h.is) (inputs_apart h.tree.ports (map decl_net h.tree.decls) h.well_formed.once)

pub tables_fit : (bytes : List ℕ) (d : Design) (stimulus : List ℕ) (vectors : List (List ℕ)) → IsDesign bytes d
    → table_of (inputs (module_seen d)) (length (outputs (module_seen d))) (records_of stimulus) ≡ Ok vectors → AllFit (inputs (module_seen d)) vectors
tables_fit bytes d stimulus vectors h e = vectors_fit (inputs (module_seen d)) (apart bytes d h) (length (outputs (module_seen d))) (records_of stimulus) vectors e

pub is_module : (bytes : List ℕ) (d : Design) → IsDesign bytes d → IsModule bytes (module_seen d)
is_module bytes d h = record { tree = h.tree; is_tree = h.is_tree; well_formed = h.well_formed; is = h.is }

pub is_problem : (bytes : List ℕ) (d : Design) (stimulus text : List ℕ) (problem : StimError) → IsDesign bytes d
    → table_of (inputs (module_seen d)) (length (outputs (module_seen d))) (records_of stimulus) ≡ Err problem → text ≡ problem_text (inputs (module_seen d)) problem → IsProblem bytes stimulus text
is_problem bytes d stimulus text problem h e t = record { module_ = module_seen d; problem = problem; is_module = is_module bytes d h; table = e; told = t }

pub is_simulated : (bytes : List ℕ) (d : Design) (stimulus text : List ℕ) (vectors : List (List ℕ)) → IsDesign bytes d
    → table_of (inputs (module_seen d)) (length (outputs (module_seen d))) (records_of stimulus) ≡ Ok vectors → IsRunText (module_seen d) vectors text → IsSimulated bytes stimulus text
is_simulated bytes d stimulus text vectors h e r = record { module_ = module_seen d; vectors = vectors; is_module = is_module bytes d h; table = e; run = r }

-- zeros fit all pins
pub zeros_fit : (ps : List Pin) → FitsPins ps (replicate (length ps) 0)
zeros_fit [] = tt
zeros_fit (p ∷ ps) = (pow_pos p.width, zeros_fit ps)

pub zeros_are : (ps : List Pin) → replicate (length ps) 0 ≡ values_at zeros ps
zeros_are [] = refl
zeros_are (p ∷ ps) = ap (λ xs. 0 ∷ xs) (zeros_are ps)

pub is_ready : (bytes : List ℕ) (d : Design) (stimulus : List ℕ) (vectors : List (List ℕ)) → IsDesign bytes d
    → table_of (inputs (module_seen d)) (length (outputs (module_seen d))) (records_of stimulus) ≡ Ok vectors → IsReady bytes stimulus (module_seen d) vectors
is_ready bytes d stimulus vectors h e = record { is_module = is_module bytes d h; table = e; fit = tables_fit bytes d stimulus vectors h e }

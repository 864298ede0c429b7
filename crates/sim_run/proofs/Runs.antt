-- Runs of a module, a vector at a time, as a simulation makes them.
use Rattle.std.specs.List.{flat_map}
use Rattle.std.proofs.Common.{◌≡◌, ℕ, zero, suc, ◌+◌, ◌<◌, ◌≤◌, List, [], ◌∷◌, ◌++◌, length, take, get_or, map, refl, ap, sym, ◌∙◌, subst, append_assoc, append-nil, arith}
use Rattle.std.proofs.lemmas.List.{take_more, take_all}
use Rattle.std.proofs.lemmas.Grind.{flat_map-append}
use Rattle.v_design.specs.Expr.{Values}
use Rattle.v_design.specs.Design.{Module, inputs, outputs, registers}
use Rattle.v_design.specs.Run.{Edge, Run, values_at}
use Rattle.v_design.specs.Fits.{FitsPins, AllFit}
use Rattle.cyc_sim.specs.Simulation.{IsSimOf, StepsTo, held}
use Rattle.cyc_sim.specs.declared.sim.Sim.{Sim}
use Rattle.report_text.specs.Printed.{line, cell, printed_run}
use Rattle.sim_run.specs.Simulated.{zeros, IsRunText}

-- a run to contents
abbrev pub RunsTo : Module → Values → List (List ℕ) → List (List ℕ) → Values → Type 0
RunsTo m c [] [] d = c ≡ d
RunsTo m c (x ∷ xs) (o ∷ os) d = (after : Values) × Edge m c x o after × RunsTo m after xs os d
RunsTo m c _ _ d = ⊥

-- one more vector
pub runs_more : (m : Module) (c d e : Values) (xs os : List (List ℕ)) (x o : List ℕ) → RunsTo m c xs os d → Edge m d x o e → RunsTo m c (xs ++ x ∷ []) (os ++ o ∷ []) e
runs_more m c d e [] [] x o r edge = (e, subst (λ z. Edge m z x o e) (sym r) edge, refl)
runs_more m c d e (y ∷ ys) (p ∷ ps) x o r edge = (r.0, r.1, runs_more m r.0 d e ys ps x o r.2 edge)
runs_more m c d e [] (p ∷ ps) x o r edge = absurd r
runs_more m c d e (y ∷ ys) [] x o r edge = absurd r

pub run_of : (m : Module) (c d : Values) (xs os : List (List ℕ)) → RunsTo m c xs os d → Run m c xs os
run_of m c d [] [] r = tt
run_of m c d (x ∷ xs) (o ∷ os) r = (r.0, r.1, run_of m r.0 d xs os r.2)
run_of m c d [] (o ∷ os) r = absurd r
run_of m c d (x ∷ xs) [] r = absurd r

-- after so many vectors a simulation is of the module, and the text is their run
pub record Runs (m : Module) (vectors : List (List ℕ)) (count : ℕ) (s : Sim) (text : List ℕ) : Type 0 where
  pub contents : Values
  pub results : List (List ℕ)
  pub run : RunsTo m zeros (take count vectors) results contents
  pub is_sim : IsSimOf m s
  pub kept : values_at contents (registers m) ≡ held s
  pub printed : text ≡ printed_run (outputs m) results

pub begins : (m : Module) (vectors : List (List ℕ)) (s : Sim) (text : List ℕ) → IsSimOf m s → held s ≡ values_at zeros (registers m) → text ≡ line (map (λ p. p.name) (outputs m)) → Runs m vectors 0 s text
begins m vectors s text i h e = record { contents = zeros; results = []; run = refl; is_sim = i; kept = sym h; printed = e ∙ sym (append-nil (line (map (λ p. p.name) (outputs m)))) }

pub vector_fits : (m : Module) (vectors : List (List ℕ)) (i : ℕ) → AllFit (inputs m) vectors → i < length vectors → FitsPins (inputs m) (get_or vectors i [])
vector_fits m [] i f l = absurd (omega arith)
vector_fits m (v ∷ vs) zero f l = f.0
vector_fits m (v ∷ vs) (suc i) f l = vector_fits m vs i f.1 (omega (arith, l))

pub goes_on : (m : Module) (vectors : List (List ℕ)) (count : ℕ) (s t : Sim) (pins outs : List ℕ) (text text' : List ℕ) → AllFit (inputs m) vectors → count < length vectors → pins ≡ get_or vectors count []
    → Runs m vectors count s text
    → ((n : Module) → IsSimOf n s → FitsPins (inputs n) pins → (contents : Values) → values_at contents (registers n) ≡ held s → StepsTo n contents pins outs (held t) × IsSimOf n t)
    → text' ≡ text ++ line (map cell outs) → Runs m vectors (count + 1) t text'
goes_on m vectors count s t pins outs text text' f l is r step e =
    let fit : FitsPins (inputs m) pins = subst (FitsPins (inputs m)) (sym is) (vector_fits m vectors count f l) in
    let next = step m r.is_sim fit r.contents r.kept in
    let more : take (count + 1) vectors ≡ take count vectors ++ pins ∷ [] = take_more vectors count [] l ∙ ap (λ z. take count vectors ++ z ∷ []) (sym is) in
    let row : List ℕ → List ℕ = λ o. line (map cell o) in
    record {
      contents = next.0.after;
      results = r.results ++ outs ∷ [];
      run = subst (λ z. RunsTo m zeros z (r.results ++ outs ∷ []) next.0.after) (sym more) (runs_more m zeros r.contents next.0.after (take count vectors) r.results pins outs r.run next.0.edge);
      is_sim = next.1;
      kept = next.0.kept;
      printed =
          let all : flat_map (λ o. line (map cell o)) (r.results ++ outs ∷ []) ≡ flat_map (λ o. line (map cell o)) r.results ++ line (map cell outs) =
          flat_map-append (λ o. line (map cell o)) r.results (outs ∷ []) ∙ ap (λ z. flat_map (λ o. line (map cell o)) r.results ++ z) (append-nil (line (map cell outs))) in
          let head = line (map (λ p. p.name) (outputs m)) in
          e ∙ (ap (λ z. z ++ line (map cell outs)) r.printed ∙ (append_assoc head (flat_map (λ o. line (map cell o)) r.results) (line (map cell outs)) ∙ ap (λ z. head ++ z) (sym all)));
    }

pub ends : (m : Module) (vectors : List (List ℕ)) (count : ℕ) (s : Sim) (text : List ℕ) → length vectors ≤ count → Runs m vectors count s text → IsRunText m vectors text
ends m vectors count s text l r = record {
  results = r.results;
  run = subst (λ z. Run m zeros z r.results) (take_all count vectors l) (run_of m zeros r.contents (take count vectors) r.results r.run);
  printed = r.printed;
}

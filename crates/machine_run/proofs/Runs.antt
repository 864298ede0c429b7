-- Runs of a block's machine, a vector at a time, as the program makes them.
use Rattle.std.specs.List.{flat_map}
use Rattle.std.proofs.Common.{◌≡◌, ℕ, ◌+◌, ◌<◌, ◌≤◌, List, [], ◌∷◌, ◌++◌, length, take, get_or, map, refl, ap, sym, ◌∙◌, subst, append_assoc, append-nil}
use Rattle.std.proofs.lemmas.List.{take_more, take_all}
use Rattle.std.proofs.lemmas.Grind.{flat_map-append}
use Rattle.rb_model.specs.declared.block.Block.{Block}
use Rattle.rb_model.specs.Kept.{Kept, Map}
use Rattle.rb_model.specs.Run.{ClockEdge, MachineRun}
use Rattle.rb_machine.specs.Machines.{IsReady, held_map}
use Rattle.rb_machine.specs.declared.machine.Machine.{Machine}
use Rattle.report_text.specs.Printed.{line, cell, printed_run}
use Rattle.machine_run.specs.Runs.{output_pins, zeros}

-- a run to a map
abbrev pub RunsTo : Block → Map → List (List ℕ) → List (List ℕ) → Map → Type 0
RunsTo b m [] [] n = m ≡ n
RunsTo b m (x ∷ xs) (o ∷ os) n = (after : Map) × ClockEdge b m x o after × RunsTo b after xs os n
RunsTo b m [] (o ∷ os) n = ⊥
RunsTo b m (x ∷ xs) [] n = ⊥

-- one more vector
runs_more : (b : Block) (m n l : Map) (xs os : List (List ℕ)) (x o : List ℕ) → RunsTo b m xs os n → ClockEdge b n x o l → RunsTo b m (xs ++ x ∷ []) (os ++ o ∷ []) l
runs_more b m n l [] [] x o r edge = (l, subst (λ z. ClockEdge b z x o l) (sym r) edge, refl)
runs_more b m n l (y ∷ ys) (p ∷ ps) x o r edge = (r.0, r.1, runs_more b r.0 n l ys ps x o r.2 edge)
runs_more b m n l [] (p ∷ ps) x o r edge = absurd r
runs_more b m n l (y ∷ ys) [] x o r edge = absurd r

run_of : (b : Block) (m n : Map) (xs os : List (List ℕ)) → RunsTo b m xs os n → MachineRun b m xs os
run_of b m n [] [] r = tt
run_of b m n (x ∷ xs) (o ∷ os) r = (r.0, r.1, run_of b r.0 n xs os r.2)
run_of b m n [] (o ∷ os) r = absurd r
run_of b m n (x ∷ xs) [] r = absurd r

-- after so many vectors a machine of the block is ready for the next, and the text is their run
pub record Runs (b : Block) (vectors : List (List ℕ)) (count : ℕ) (m : Machine) (text : List ℕ) : Type 0 where
  pub results : List (List ℕ)
  pub run : RunsTo b zeros (take count vectors) results (held_map m)
  pub ready : IsReady m
  pub of : m.block.now ≡ b
  pub printed : text ≡ printed_run (output_pins b) results

pub begins : (b : Block) (vectors : List (List ℕ)) (m : Machine) (text : List ℕ) → IsReady m → m.block.now ≡ b → ((k : Kept) → held_map m k ≡ 0) → text ≡ line (map (λ p. p.name) (output_pins b)) → Runs b vectors 0 m text
begins b vectors m text r o z e = record {
  results = [];
  run = λ d k. sym (z k) d;
  ready = r;
  of = o;
  printed = e ∙ sym (append-nil (line (map (λ p. p.name) (output_pins b))));
}

pub goes_on : (b : Block) (vectors : List (List ℕ)) (count : ℕ) (m n : Machine) (pins outs text text' : List ℕ) → count < length vectors → pins ≡ get_or vectors count [] → Runs b vectors count m text
    → ClockEdge m.block.now (held_map m) pins outs (held_map n) → IsReady n → n.block.now ≡ m.block.now → text' ≡ text ++ line (map cell outs) → Runs b vectors (count + 1) n text'
goes_on b vectors count m n pins outs text text' l is r edge ready same e =
    let more : take (count + 1) vectors ≡ take count vectors ++ pins ∷ [] = take_more vectors count [] l ∙ ap (λ z. take count vectors ++ z ∷ []) (sym is) in
    let here : ClockEdge b (held_map m) pins outs (held_map n) = subst (λ z. ClockEdge z (held_map m) pins outs (held_map n)) r.of edge in
    record {
      results = r.results ++ outs ∷ [];
      run = subst (λ z. RunsTo b zeros z (r.results ++ outs ∷ []) (held_map n)) (sym more) (runs_more b zeros (held_map m) (held_map n) (take count vectors) r.results pins outs r.run here);
      ready = ready;
      of = same ∙ r.of;
      printed =
          let all : flat_map (λ o. line (map cell o)) (r.results ++ outs ∷ []) ≡ flat_map (λ o. line (map cell o)) r.results ++ line (map cell outs) =
          flat_map-append (λ o. line (map cell o)) r.results (outs ∷ []) ∙ ap (λ z. flat_map (λ o. line (map cell o)) r.results ++ z) (append-nil (line (map cell outs))) in
          let head = line (map (λ p. p.name) (output_pins b)) in
          e ∙ (ap (λ z. z ++ line (map cell outs)) r.printed ∙ (append_assoc head (flat_map (λ o. line (map cell o)) r.results) (line (map cell outs)) ∙ ap (λ z. head ++ z) (sym all)));
    }

pub ends : (b : Block) (vectors : List (List ℕ)) (count : ℕ) (m : Machine) (text : List ℕ) → length vectors ≤ count → Runs b vectors count m text
    → (results : List (List ℕ)) × MachineRun b zeros vectors results × (text ≡ printed_run (output_pins b) results)
ends b vectors count m text l r = (
  r.results,
  subst (λ z. MachineRun b zeros z r.results) (take_all count vectors l) (run_of b zeros (held_map m) (take count vectors) r.results r.run),
  r.printed,
)

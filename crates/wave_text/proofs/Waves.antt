-- A run that is written an edge at a time.
use Rattle.std.specs.Option.{option_copied}
use Rattle.std.proofs.Common.{zero, suc, ◌≡◌, ℕ, ◌+◌, ◌<◌, ◌≤◌, ◌==◌, Bool, false, if◌then◌else◌, IfSome, Bor, Result, Ok, Err, IfOk, MatchResult, Option, None, Some, List, [], ◌∷◌, ◌++◌, length, take, drop, get_or, refl, ap, sym, ◌∙◌, subst, arith, append_assoc, append-nil, length-take}
use Rattle.std.proofs.lemmas.List.{take_more, take_all}
use Rattle.std.proofs.lemmas.Bool.Decides.{nat_tests}
use Rattle.std.proofs.lemmas.Nat.{pow_pos}
use Rattle.rb_base.specs.declared.ports.Pin.{Pin}
use Rattle.rb_edge.specs.Sink.{Told, Takes, TakesPart}
use Rattle.rb_edge.specs.Flows.{Flows}
use Rattle.rb_edge.proofs.Flowing.{whole_of, part_of}
use Rattle.v_design.specs.Expr.{Values}
use Rattle.v_design.specs.Design.{Module, module_of, inputs, outputs, registers}
use Rattle.v_design.specs.Run.{Edge, Run, values_at}
use Rattle.v_design.specs.Fits.{FitsPins, AllFit, ContentsFit, EdgeFits, ValuesFit}
use Rattle.v_design.proofs.HasRun.{has_run}
use Rattle.v_design.proofs.ValuesFit.{edge_fits}
use Rattle.cyc_sim.specs.Accepted.{IsAccepted}
use Rattle.cyc_sim.specs.Simulation.{IsSimOf, StepsTo, held}
use Rattle.cyc_sim.specs.declared.sim.Sim.{Sim}
use Rattle.vcd_syntax.specs.Dump.{head_text, vector_text, dump_text}
use Rattle.sim_run.specs.Simulated.{zeros}
use Rattle.sim_run.proofs.Runs.{RunsTo, runs_more, run_of}
use Rattle.wave_text.specs.Dumped.{run_pins, rows_of, IsDump}
use Rattle.wave_text.proofs.Rows.{last_of, last_row, rows_text, one_row, rows_append, run_on, rows_on, as_many}

runs : (m : Module) → IsAccepted m → (c : Values) (vectors : List (List ℕ)) → AllFit (inputs m) vectors → (results : List (List ℕ)) × Run m c vectors results
runs m a c vectors f =
    let P : Module → Type 0 = λ n. AllFit (inputs n) vectors → (results : List (List ℕ)) × Run n c vectors results in
    subst P (sym a.is) (has_run a.tree a.formed c vectors) f

fit_behind : (ps : List Pin) (n : ℕ) (vectors : List (List ℕ)) → AllFit ps vectors → AllFit ps (drop n vectors)
fit_behind ps zero vectors f = f
fit_behind ps (suc n) [] f = tt
fit_behind ps (suc n) (v ∷ vectors) f = fit_behind ps n vectors f.1

pub fits_at : (ps : List Pin) (vectors : List (List ℕ)) (i : ℕ) → AllFit ps vectors → i < length vectors → FitsPins ps (get_or vectors i [])
fits_at ps [] i f l = absurd (omega arith)
fits_at ps (v ∷ vs) zero f l = f.0
fits_at ps (v ∷ vs) (suc i) f l = fits_at ps vs i f.1 (omega (arith, l))

split_at : (vectors : List (List ℕ)) (i : ℕ) → i < length vectors → take i vectors ++ (get_or vectors i [] ∷ drop (suc i) vectors) ≡ vectors
split_at [] i l = absurd (omega arith)
split_at (v ∷ vs) zero l = refl
split_at (v ∷ vs) (suc i) l = ap (λ z. v ∷ z) (split_at vs i (omega (arith, l)))

-- values of one list of pins, and of another behind it
all_fit : (ps qs : List Pin) (xs ys : List ℕ) → FitsPins ps xs → FitsPins qs ys → FitsPins (ps ++ qs) (xs ++ ys)
all_fit [] qs [] ys f g = g
all_fit (p ∷ ps) qs (x ∷ xs) ys f g = (f.0, all_fit ps qs xs ys f.1 g)
all_fit [] qs (x ∷ xs) ys f g = absurd f
all_fit (p ∷ ps) qs [] ys f g = absurd f

zeros_within : (ps : List Pin) → ValuesFit zeros ps
zeros_within [] = tt
zeros_within (p ∷ ps) = (pow_pos p.width, zeros_within ps)

at_edge : (m : Module) → IsAccepted m → (contents after : Values) (ins outs : List ℕ) → ContentsFit m contents → FitsPins (inputs m) ins → (e : Edge m contents ins outs after) → EdgeFits m e.values outs after
at_edge m a contents after ins outs =
    let P : Module → Type 0 = λ n. ContentsFit n contents → FitsPins (inputs n) ins → (e : Edge n contents ins outs after) → EdgeFits n e.values outs after in
    subst P (sym a.is) (edge_fits a.bytes a.tree a.spelled a.formed contents after ins outs)

-- the values before the edge of a number
abbrev pub before_edge : ℕ → List ℕ → Option (List ℕ)
before_edge at before = if at == 0 then None else Some before

-- after so many vectors a simulation is of the module, the values before are those at the last edge, and the text is the dump so far
pub record Writes (m : Module) (vectors : List (List ℕ)) (count : ℕ) (s : Sim) (before text : List ℕ) : Type 0 where
  pub contents : Values
  pub results : List (List ℕ)
  pub run : RunsTo m zeros (take count vectors) results contents
  pub is_sim : IsSimOf m s
  pub kept : values_at contents (registers m) ≡ held s
  pub within : ContentsFit m contents
  pub before_fits : IfSome (before_edge count before) (FitsPins (run_pins m))
  pub last : before_edge count before ≡ last_of None (rows_of (take count vectors) results)
  pub dumped : text ≡ head_text m.name (run_pins m) ++ rows_text 0 (run_pins m) None (rows_of (take count vectors) results)

pub begins : (m : Module) (vectors : List (List ℕ)) (s : Sim) (before text : List ℕ) → IsSimOf m s → held s ≡ values_at zeros (registers m) → text ≡ head_text m.name (run_pins m) → Writes m vectors 0 s before text
begins m vectors s before text i h e = record {
  contents = zeros;
  results = [];
  run = refl;
  is_sim = i;
  kept = sym h;
  within = zeros_within (registers m);
  before_fits = tt;
  last = refl;
  dumped = e ∙ sym (append-nil (head_text m.name (run_pins m)));
}

-- a dump of the whole run begins with its head
pub from_head : (m : Module) (vectors : List (List ℕ)) → IsAccepted m → AllFit (inputs m) vectors → (rest : List ℕ) × IsDump m vectors (head_text m.name (run_pins m) ++ rest)
from_head m vectors a f =
    let r = runs m a zeros vectors f in
    (rows_text 0 (run_pins m) None (rows_of vectors r.0), record { results = r.0; run = r.1; dumped = refl })

-- what an edge gave
pub record Stepped (m : Module) (contents : Values) (vector now : List ℕ) (t : Sim) : Type 0 where
  pub outs : List ℕ
  pub is : now ≡ vector ++ outs
  pub step : StepsTo m contents vector outs (held t)
  pub sim : IsSimOf m t

pub stepped : (m : Module) (vectors : List (List ℕ)) (count : ℕ) (s t : Sim) (row before now text : List ℕ) → AllFit (inputs m) vectors → count < length vectors → row ≡ get_or vectors count [] → (w : Writes m vectors count s before text)
    → ((n : Module) → IsSimOf n s → FitsPins (inputs n) row → (contents : Values) → values_at contents (registers n) ≡ held s → (outs : List ℕ) × (now ≡ row ++ outs) × StepsTo n contents row outs (held t) × IsSimOf n t)
    → Stepped m w.contents (get_or vectors count []) now t
stepped m vectors count s t row before now text fit more e w step =
    let fits : FitsPins (inputs m) row = subst (FitsPins (inputs m)) (sym e) (fits_at (inputs m) vectors count fit more) in
    let r = step m w.is_sim fits w.contents w.kept in
    subst (λ v. Stepped m w.contents v now t) e (record { outs = r.0; is = r.1; step = r.2; sim = r.3 })

module _ (m : Module) (vectors : List (List ℕ)) (count : ℕ) (s t : Sim) (before now text : List ℕ) (accepted : IsAccepted m) (fit : AllFit (inputs m) vectors) (more : count < length vectors) (w : Writes m vectors count s before text)
    (r : Stepped m w.contents (get_or vectors count []) now t) where
  abbrev vector : List ℕ
  vector = get_or vectors count []

  abbrev ps : List Pin
  ps = run_pins m

  abbrev rows : List (List ℕ)
  rows = rows_of (take count vectors) w.results

  at_row : length rows ≡ count
  at_row =
      let all = as_many m zeros w.contents (take count vectors) w.results w.run in
      let some = length-take count vectors in omega (arith, all, some, more)

  -- the text of this edge
  abbrev pub edge_text : List ℕ
  edge_text = vector_text count ps (before_edge count before) now

  with_row : (others : List (List ℕ)) → head_text m.name ps ++ rows_text 0 ps None (rows ++ (vector ++ r.outs) ∷ others) ≡ text ++ (edge_text ++ rows_text (count + 1) ps (Some (vector ++ r.outs)) others)
  with_row others =
      ap (λ l. head_text m.name ps ++ l) (rows_append 0 ps None rows ((vector ++ r.outs) ∷ others)
      ∙ ap (λ l. rows_text 0 ps None rows ++ l) (ap (λ k. rows_text k ps (last_of None rows) ((vector ++ r.outs) ∷ others)) (let e : 0 + length rows ≡ count = omega (arith, at_row) in e)
      ∙ (ap (λ b. rows_text count ps b ((vector ++ r.outs) ∷ others)) (sym w.last)
      ∙ (ap (λ v. rows_text count ps (before_edge count before) (v ∷ others)) (sym r.is) ∙ (one_row count ps (before_edge count before) now others
      ∙ ap (λ v. edge_text ++ rows_text (count + 1) ps (Some v) others) r.is)))))
      ∙ (sym (append_assoc (head_text m.name ps) (rows_text 0 ps None rows) (edge_text ++ rows_text (count + 1) ps (Some (vector ++ r.outs)) others))
      ∙ ap (λ l. l ++ (edge_text ++ rows_text (count + 1) ps (Some (vector ++ r.outs)) others)) (sym w.dumped))

  edge : EdgeFits m r.step.edge.values r.outs r.step.after
  edge = at_edge m accepted w.contents r.step.after (get_or vectors count []) r.outs w.within (fits_at (inputs m) vectors count fit more) r.step.edge

  -- the values at this edge fit
  pub now_fits : FitsPins ps now
  now_fits = subst (FitsPins ps) (sym r.is) (all_fit (inputs m) (outputs m) vector r.outs (fits_at (inputs m) vectors count fit more) edge.outs_fit)

  later : (b : List ℕ) → before_edge (count + 1) b ≡ Some b
  later b = ap (λ (z : Bool). if z then None else Some b) (let e : (count + 1 == 0) ≡ false = grind (arith, nat_tests) in e)

  one_more : take (count + 1) vectors ≡ take count vectors ++ vector ∷ []
  one_more = take_more vectors count [] more

  -- one vector more
  pub goes_on : Writes m vectors (count + 1) t now (text ++ edge_text)
  goes_on =
      let results = w.results ++ r.outs ∷ [] in
      let all : rows_of (take (count + 1) vectors) results ≡ rows ++ (vector ++ r.outs) ∷ [] = ap (λ z. rows_of z results) one_more ∙ rows_on m zeros w.contents (take count vectors) (vector ∷ []) w.results (r.outs ∷ []) w.run in
      record {
        contents = r.step.after;
        results = results;
        run = subst (λ z. RunsTo m zeros z results r.step.after) (sym one_more) (runs_more m zeros w.contents r.step.after (take count vectors) w.results vector r.outs w.run r.step.edge);
        is_sim = r.sim;
        kept = r.step.kept;
        within = edge.contents;
        before_fits = subst (λ b. IfSome b (FitsPins ps)) (sym (later now)) now_fits;
        last = later now ∙ (ap Some r.is ∙ (sym (last_row rows (vector ++ r.outs)) ∙ ap (last_of None) (sym all)));
        dumped = ap (λ l. text ++ l) (sym (append-nil edge_text)) ∙ (sym (with_row []) ∙ ap (λ z. head_text m.name ps ++ rows_text 0 ps None z) (sym all));
      }

  -- the dump of the whole run goes on with this edge
  pub from_edge : (rest : List ℕ) × IsDump m vectors (text ++ (edge_text ++ rest))
  from_edge =
      let rest = runs m accepted r.step.after (drop (suc count) vectors) (fit_behind (inputs m) (suc count) vectors fit) in
      let whole = split_at vectors count more in
      let results = w.results ++ (r.outs ∷ rest.0) in
      let run : Run m zeros vectors results = subst (λ z. Run m zeros z results) whole (run_on m zeros w.contents (take count vectors) (vector ∷ drop (suc count) vectors) w.results (r.outs ∷ rest.0) w.run (r.step.after, r.step.edge, rest.1)) in
      let all : rows_of vectors results ≡ rows ++ (vector ++ r.outs) ∷ rows_of (drop (suc count) vectors) rest.0
      = ap (λ z. rows_of z results) (sym whole) ∙ rows_on m zeros w.contents (take count vectors) (vector ∷ drop (suc count) vectors) w.results (r.outs ∷ rest.0) w.run in (
        rows_text (count + 1) ps (Some (vector ++ r.outs)) (rows_of (drop (suc count) vectors) rest.0),
        record {
          results = results;
          run = run;
          dumped = sym (with_row (rows_of (drop (suc count) vectors) rest.0)) ∙ ap (λ z. head_text m.name ps ++ rows_text 0 ps None z) (sym all);
        },
      )

pub ends : (m : Module) (vectors : List (List ℕ)) (count : ℕ) (s : Sim) (before text : List ℕ) → length vectors ≤ count → Writes m vectors count s before text → IsDump m vectors text
ends m vectors count s before text l w =
    let all = take_all count vectors l in
    record {
      results = w.results;
      run = subst (λ z. Run m zeros z w.results) all (run_of m zeros w.contents (take count vectors) w.results w.run);
      dumped = w.dumped ∙ ap (λ z. head_text m.name (run_pins m) ++ rows_text 0 (run_pins m) None (rows_of z w.results)) all;
    }

-- the values before an edge as a reference to them
pub copied_fits : (o : Option (Bor (List ℕ))) (P : List ℕ → Type 0) → IfSome (option_copied o) P → IfSome o (λ b. P b.now)
copied_fits None P h = tt
copied_fits (Some b) P h = h

-- what a sink took of a dump
pub told_of : {U E : Type 0} {a b : Told} {f g : ℕ} {xs : List ℕ} (r : Result U E) → Flows a b f g [] [] r xs → MatchResult r (λ _. Takes a b xs) (λ _. TakesPart a b xs)
told_of (Ok u) p = whole_of (Ok u) p
told_of (Err e) p = part_of (Err e) p

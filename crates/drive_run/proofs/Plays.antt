-- A script played on a block's machine, a vector at a time.
use Rattle.std.specs.List.{AllByRecursion, flat_map}
use Rattle.std.proofs.lemmas.Grind.{flat_map-append}
use Rattle.std.proofs.lemmas.List.{length-map, map-append}
use Rattle.std.proofs.lemmas.List.Elements.{Contains-append_right}
use Rattle.std.proofs.lemmas.List.Sums.{count_by-le-length, sum_by-le-sum_by, sum_by_push}
use Rattle.std.proofs.Common.{not, ◌==◌, cond, codes, decimal, slice_index, ◌≡◌, ℕ, suc, ◌+◌, ◌≤◌, Bool, true, false, List, [], ◌∷◌, ◌++◌, Contains, length, map, zip, refl, ap, sym, ◌∙◌, subst, append_assoc, append-nil, length-append, arith}
use Rattle.rb_model.specs.declared.block.Block.{Block}
use Rattle.rb_model.specs.Kept.{Kept, Map}
use Rattle.rb_model.specs.Run.{ClockEdge, MachineRun}
use Rattle.rb_machine.specs.Machines.{IsReady, held_map}
use Rattle.rb_machine.specs.declared.machine.Machine.{Machine}
use Rattle.drive_lang.specs.declared.order.Turn.{Turn}
use Rattle.drive_lang.specs.declared.order.Turn.TheVariants.{End}
use Rattle.drive_lang.specs.Steps.{Ask, Checks, Nothing, Shows, Step, turn_of}
use Rattle.drive_lang.specs.Left.{Takes}
use Rattle.drive_lang.specs.Playing.{GoesOn, Playing}
use Rattle.drive_run.specs.Transcript.{Seen, checks_in, failed_in, is_check, is_failed, told}
use Rattle.machine_run.specs.Runs.{zeros}
use Rattle.drive_run.specs.Playing.{IsTranscript, tallied}
use Rattle.drive_run.specs.declared.playing.Tally.{Tally}

-- a run to a map
abbrev pub RunsTo : Block → Map → List (List ℕ) → List (List ℕ) → Map → Type 0
RunsTo b m [] [] n = m ≡ n
RunsTo b m (x ∷ xs) (o ∷ os) n = (after : Map) × ClockEdge b m x o after × RunsTo b after xs os n
RunsTo b m [] (o ∷ os) n = ⊥
RunsTo b m (x ∷ xs) [] n = ⊥

-- one more vector
runs_more : (b : Block) (m n l : Map) (xs os : List (List ℕ)) (x o : List ℕ) → RunsTo b m xs os n → ClockEdge b n x o l → RunsTo b m (xs ++ x ∷ []) (os ++ o ∷ []) l
runs_more b m n l [] [] x o r edge = (l, subst (λ z. ClockEdge b z x o l) (sym r) edge, refl)
runs_more b m n l (y ∷ ys) (p ∷ ps) x o r edge = (r.0, r.1, runs_more b r.0 n l ys ps x o r.2 edge)
runs_more b m n l [] (p ∷ ps) x o r edge = absurd r
runs_more b m n l (y ∷ ys) [] x o r edge = absurd r

run_of : (b : Block) (m n : Map) (xs os : List (List ℕ)) → RunsTo b m xs os n → MachineRun b m xs os
run_of b m n [] [] r = tt
run_of b m n (x ∷ xs) (o ∷ os) r = (r.0, r.1, run_of b r.0 n xs os r.2)
run_of b m n [] (o ∷ os) r = absurd r
run_of b m n (x ∷ xs) [] r = absurd r

as_long : (b : Block) (m n : Map) (xs os : List (List ℕ)) → RunsTo b m xs os n → length xs ≡ length os
as_long b m n [] [] r = refl
as_long b m n (x ∷ xs) (o ∷ os) r = ap suc (as_long b r.0 n xs os r.2)
as_long b m n [] (o ∷ os) r = absurd r
as_long b m n (x ∷ xs) [] r = absurd r

vectors : List Step → List (List ℕ)
vectors ss = map (λ s. s.vector) ss

-- one step more that is seen
zip_more : (ss : List Step) (os : List (List ℕ)) (s : Step) (o : List ℕ) → length ss ≡ length os → zip (ss ++ s ∷ []) (os ++ o ∷ []) ≡ zip ss os ++ (s, o) ∷ []
zip_more [] [] s o e = refl
zip_more [] (p ∷ ps) s o e = absurd (omega (arith, e))
zip_more (t ∷ ts) [] s o e = absurd (omega (arith, e))
zip_more (t ∷ ts) (p ∷ ps) s o e = ap (λ z. (t, p) ∷ z) (zip_more ts ps s o (omega (arith, e)))

-- what is told of what was seen
abbrev tells : Seen → List ℕ
tells s = told s.0.ask s.1

-- a script is played so far: of all its steps some are done and the others are left, the machine has run over their vectors, and the text
-- and the tally tell what they saw
pub record Plays (b : Block) (all : List Step) (script : Playing) (m : Machine) (text : List ℕ) (tally : Tally) : Type 0 where
  pub done : List Step
  pub results : List (List ℕ)
  pub whole : all ≡ done ++ script.left
  pub same : script.all ≡ all
  pub run : RunsTo b zeros (map (λ s. s.vector) done) results (held_map m)
  pub ready : IsReady m
  pub of : m.block.now ≡ b
  pub text_is : text ≡ flat_map tells (zip done results)
  pub checks : tally.checks ≡ checks_in (zip done results)
  pub failed : tally.failed ≡ failed_in (zip done results)

pub begins : (b : Block) (script : Playing) (m : Machine) (tally : Tally) → IsReady m → m.block.now ≡ b → ((k : Kept) → held_map m k ≡ 0) → script.left ≡ script.all → tally ≡ record { checks = 0; failed = 0 }
    → Plays b script.all script m [] tally
begins b script m tally ready of zeroed left none = record {
  done = [];
  results = [];
  whole = sym left;
  same = refl;
  run = λ d k. sym (zeroed k) d;
  ready = ready;
  of = of;
  text_is = refl;
  checks = ap (λ t. t.checks) none;
  failed = ap (λ t. t.failed) none;
}

-- the step that is taken
pub record IsNext (left rest : List Step) (turn : Turn) (after : List ℕ) : Type 0 where
  pub step : Step
  pub first : left ≡ step ∷ rest
  pub asks : turn ≡ turn_of step.ask
  pub shows : after ≡ step.vector

pub next_step : (left rest : List Step) (turn : Turn) (before after : List ℕ) → Takes left rest turn before after → (turn ≡ End → ⊥) → IsNext left rest turn after
next_step [] rest turn before after t other = absurd (other t.1)
next_step (s ∷ ss) rest turn before after t other = record { step = s; first = ap (λ xs. s ∷ xs) (sym t.0); asks = t.1; shows = t.2 }

asks_on : (a : Ask) → End ≡ turn_of a → ⊥
asks_on Nothing e = cc e
asks_on (Shows l n o) e = cc e
asks_on (Checks l n o w) e = cc e

pub none_left : (left rest : List Step) (turn : Turn) (before after : List ℕ) → Takes left rest turn before after → turn ≡ End → left ≡ []
none_left [] rest turn before after t e = refl
none_left (s ∷ ss) rest turn before after t e = absurd (asks_on s.ask (sym e ∙ t.1))

-- a step behind those that are done is among all
pub among : (all done rest : List Step) (s : Step) → all ≡ done ++ s ∷ rest → Contains all s
among all done rest s e = subst (λ xs. Contains xs s) (sym e) (Contains-append_right done (s ∷ rest) s (0, omega arith, refl))

-- what holds of all vectors holds of its
pub fits_there : (P : List ℕ → Type 0) (done rest : List Step) (s : Step) → AllByRecursion P (map (λ t. t.vector) (done ++ s ∷ rest)) → P s.vector
fits_there P [] rest s h = h.0
fits_there P (t ∷ ts) rest s h = fits_there P ts rest s h.1

module _ (b : Block) (all : List Step) (old : Playing) (m : Machine) (text : List ℕ) (tally : Tally) (p : Plays b all old m text tally) where
  -- checks are no more than steps, and failures no more than checks
  pub few : tally.checks + length old.left ≤ length all
  few =
      let c = count_by-le-length (λ s. is_check s.0.ask) (zip p.done p.results) in
      let z = zip_short p.done p.results in
      omega (arith, c, z, p.checks, ap length p.whole, length-append p.done old.left)
    where
      zip_short : (ss : List Step) (os : List (List ℕ)) → length (zip ss os) ≤ length ss
      zip_short [] os = omega arith
      zip_short (s ∷ ss) [] = omega arith
      zip_short (s ∷ ss) (o ∷ os) = omega (arith, zip_short ss os)

  pub less : tally.failed ≤ tally.checks
  less =
      let l = sum_by-le-sum_by (λ (s : Seen). cond (is_failed s.0.ask s.1) 1 0) (λ (s : Seen). cond (is_check s.0.ask) 1 0) (zip p.done p.results) (λ s. by s.0.ask s.1) in
      omega (arith, l, p.checks, p.failed)
    where
      by : (a : Ask) (outs : List ℕ) → cond (is_failed a outs) 1 0 ≤ cond (is_check a) 1 0
      by Nothing outs = omega arith
      by (Shows l n o) outs = omega arith
      by (Checks l n o w) outs = one (not (slice_index outs o == w))
        where
          one : (c : Bool) → cond c 1 0 ≤ 1
          one true = omega arith
          one false = omega arith

  -- one step more is played
  pub goes_on : (new : Playing) (turn : Turn) (before pins outs : List ℕ) (n : Machine) (text' : List ℕ) (tally' : Tally)
      → GoesOn old new turn before pins → (turn ≡ End → ⊥) → ClockEdge m.block.now (held_map m) pins outs (held_map n) → IsReady n → n.block.now ≡ m.block.now
      → ((s : Step) → Contains new.all s → turn ≡ turn_of s.ask → text' ≡ text ++ told s.ask outs) → ((s : Step) → turn ≡ turn_of s.ask → tally' ≡ tallied s.ask outs tally)
      → Plays b all new n text' tally'
  goes_on new turn before pins outs n text' tally' on other edge ready same is counted =
      let x = next_step old.left new.left turn before pins on.taken other in
      let s = x.step in
      let at : all ≡ p.done ++ s ∷ new.left = p.whole ∙ ap (λ xs. p.done ++ xs) x.first in
      let here : ClockEdge b (held_map m) s.vector outs (held_map n) = subst (λ v. ClockEdge b (held_map m) v outs (held_map n)) x.shows (subst (λ z. ClockEdge z (held_map m) pins outs (held_map n)) p.of edge) in
      let long : length p.done ≡ length p.results = sym (length-map p.done (λ t. t.vector)) ∙ as_long b zeros (held_map m) (map (λ t. t.vector) p.done) p.results p.run in
      let seen = zip_more p.done p.results s outs long in
      let every : new.all ≡ all = on.all ∙ p.same in
      let added = is s (among new.all p.done new.left s (every ∙ at)) x.asks in
      let tally_is = counted s x.asks in
      record {
        done = p.done ++ s ∷ [];
        results = p.results ++ outs ∷ [];
        whole = at ∙ sym (append_assoc p.done (s ∷ []) new.left);
        same = every;
        run = subst (λ z. RunsTo b zeros z (p.results ++ outs ∷ []) (held_map n)) (sym (map-append (λ t. t.vector) p.done (s ∷ []))) (runs_more b zeros (held_map m) (held_map n) (map (λ t. t.vector) p.done) p.results s.vector outs p.run here);
        ready = ready;
        of = same ∙ p.of;
        text_is = added ∙ ap (λ t. t ++ told s.ask outs) p.text_is ∙ sym (ap (flat_map tells) seen ∙ flat_map-append tells (zip p.done p.results) ((s, outs) ∷ []) ∙ ap (λ t. flat_map tells (zip p.done p.results) ++ t) (append-nil (told s.ask outs)));
        checks = ap (λ t. t.checks) tally_is ∙ ap (λ c. c + cond (is_check s.ask) 1 0) p.checks ∙ sym (ap checks_in seen ∙ sum_by_push (λ (t : Seen). cond (is_check t.0.ask) 1 0) (zip p.done p.results) (s, outs));
        failed = ap (λ t. t.failed) tally_is ∙ ap (λ c. c + cond (is_failed s.ask outs) 1 0) p.failed ∙ sym (ap failed_in seen ∙ sum_by_push (λ (t : Seen). cond (is_failed t.0.ask t.1) 1 0) (zip p.done p.results) (s, outs));
      }

  -- all steps are played
  pub ends : (new : Playing) (turn : Turn) (before pins whole : List ℕ) → GoesOn old new turn before pins → turn ≡ End
      → whole ≡ text ++ (codes "checks " ++ decimal tally.checks ++ codes " failed " ++ decimal tally.failed ++ codes "\n") → IsTranscript b all whole tally.failed
  ends new turn before pins whole on e is =
      let done : all ≡ p.done = p.whole ∙ ap (λ xs. p.done ++ xs) (none_left old.left new.left turn before pins on.taken e) ∙ append-nil p.done in
      let seen : zip all p.results ≡ zip p.done p.results = ap (λ xs. zip xs p.results) done in
      record {
        results = p.results;
        run = subst (λ xs. MachineRun b zeros (map (λ s. s.vector) xs) p.results) (sym done) (run_of b zeros (held_map m) (map (λ s. s.vector) p.done) p.results p.run);
        text_is = is ∙ ap (λ x. x ++ (codes "checks " ++ decimal tally.checks ++ codes " failed " ++ decimal tally.failed ++ codes "\n")) p.text_is
            ∙ ap (λ c. flat_map tells (zip p.done p.results) ++ (codes "checks " ++ decimal c ++ codes " failed " ++ decimal tally.failed ++ codes "\n")) p.checks
            ∙ ap (λ c. flat_map tells (zip p.done p.results) ++ (codes "checks " ++ decimal (checks_in (zip p.done p.results)) ++ codes " failed " ++ decimal c ++ codes "\n")) p.failed
            ∙ ap summed (sym seen);
        failed_is = p.failed ∙ ap failed_in (sym seen);
      }
    where
      summed : List Seen → List ℕ
      summed s = flat_map tells s ++ (codes "checks " ++ decimal (checks_in s) ++ codes " failed " ++ decimal (failed_in s) ++ codes "\n")

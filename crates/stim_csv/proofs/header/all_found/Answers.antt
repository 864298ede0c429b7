use Rattle.std.proofs.Common.{◌≡◌, ℕ, ◌+◌, ◌<◌, List, length, get_or, Option, Some, None, refl, ap, ◌∙◌, take, map, ◌++◌, [], ◌∷◌}
use Rattle.std.proofs.lemmas.List.{take_more, map-append}
use Rattle.stim_csv.specs.Columns.{unfound_problem}
use Rattle.stim_csv.proofs.FirstProblem.{problem_after, problem_here, problem_past}
use Rattle.stim_csv.proofs.header.all_found.Goals as goal

-- one more column that is found
grown : (columns : List (Option ℕ)) (i column : ℕ) (found found' : List ℕ) → i < length columns → get_or columns i None ≡ Some column → map Some found ≡ take i columns
    → found' ≡ found ++ (column ∷ []) → map Some found' ≡ take (i + 1) columns
grown columns i column found found' l is was pushed = rw (pushed, map-append Some found (column ∷ []), was, take_more columns i None l, is) refl

pub returns-in-None-clause-problem : goal.returns-in-None-clause-problem
returns-in-None-clause-problem c = λ other.
    c.loop-pin.invariant.problem ∙ problem_here unfound_problem c.args.columns.now c.loop-pin.pin None _ c.loop-pin-test.true (ap (unfound_problem c.loop-pin.pin) c.in-None.is)

pub loop-pin-preserved : goal.loop-pin-preserved
loop-pin-preserved c = record {
  problem = c.loop-pin.invariant.problem ∙ problem_after unfound_problem c.args.columns.now c.loop-pin.pin None c.loop-pin-test.true (ap (unfound_problem c.loop-pin.pin) c.in-Some.is);
  found = grown c.args.columns.now c.loop-pin.pin c.in-Some.column _ _ c.loop-pin-test.true c.in-Some.is c.loop-pin.invariant.found c.in_ok-push-in-Some.ensures.items;
}

pub returns-clause-sound : goal.returns-clause-sound
returns-clause-sound c = c.loop-pin.invariant.problem ∙ problem_past unfound_problem c.args.columns.now c.loop-pin.pin c.loop-pin-test.false

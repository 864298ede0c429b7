use Rattle.std.proofs.Common.{◌≡◌, ◌+◌, ◌≤◌, List, [], ◌∷◌, length, drop, refl, subst, arith}
use Rattle.std.proofs.lemmas.Bool.{OnTrue_at}
use Rattle.sim_lanes.specs.declared.narrow.NarrowOperation.{NarrowOperation}
use Rattle.sim_lanes.specs.Runs.{AreOf, AreRuns}
use Rattle.sim_lanes.proofs.Running.{runs_before, runs_none}
use Rattle.sim_lanes.proofs.runs.are_runs.Goals as goal

pub loop-run-preserved : goal.loop-run-preserved
loop-run-preserved c = λ h. c.loop-run.invariant (runs_before c.loop-run.rest.now c.args.runs.now c.loop-run.run-index _ c.loop-run-test.true (record {
  room = omega arith;
  kind = subst (AreOf _) c.split_at.ensures.front (OnTrue_at c.if-not-are_of.false c.are_of.ensures);
  rest = subst (λ os. AreRuns os (drop (c.loop-run.run-index + 1) c.args.runs.now)) c.split_at.ensures.back h;
}))

-- no operation is left
empty : (os : List NarrowOperation) → length os ≤ 0 → os ≡ []
empty [] h = refl
empty (o ∷ os) h = absurd (omega (arith, h))

pub returns : goal.returns
returns c = c.loop-run.invariant (runs_none c.loop-run.rest.now c.args.runs.now c.loop-run.run-index (omega arith) (empty c.loop-run.rest.now (omega arith)))

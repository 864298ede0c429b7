use Rattle.std.proofs.Common.{◌+◌, length, take, refl, ap, sym, subst, ◌∙◌, arith}
use Rattle.std.proofs.lemmas.List.{take_all}
use Rattle.sim_lanes.specs.Narrow.{AreBelow, narrow_after}
use Rattle.sim_lanes.proofs.Settling.{narrow_after-none}
use Rattle.sim_lanes.proofs.Running.{below_front, below_rest, next_so_far, runs_end}
use Rattle.sim_lanes.proofs.runs.settle_narrow.Goals as goal

pub loop-run-init : goal.loop-run-init
loop-run-init c = record { below = c.requires.below; sized = c.requires.sized; settled = λ h. record { runs = h; values = refl } }

pub settle_run-requires-clause-below : goal.settle_run-requires-clause-below
settle_run-requires-clause-below c =
    subst (AreBelow c.loop-run.place) (sym c.split_at.ensures.front) (below_front c.loop-run.place c.min-count.result c.loop-run.rest.now c.loop-run.invariant.below)

pub loop-run-preserved : goal.loop-run-preserved
loop-run-preserved c = record {
  below = subst (AreBelow (c.loop-run.place + c.min-count.result)) (sym c.split_at.ensures.back) (below_rest c.loop-run.place c.min-count.result c.loop-run.rest.now c.loop-run.invariant.below);
  sized = omega (arith, c.loop-run.invariant.sized, c.split_at.ensures.back_len, c.settle_run.auto.values);
  settled = λ h. next_so_far c.args.operations.now c.args.runs.now c.loop-run.run-index c.args.first c.loop-run.place c.args.values.now c.loop-run.values c.settle_run.new.values c.loop-run.rest.now c.split_at.result.0.now c.split_at.result.1.now
      c.min-count.result _ c.loop-run-test.true c.min-count.ensures c.split_at.ensures.front c.split_at.ensures.back c.settle_run.ensures (c.loop-run.invariant.settled h);
}

pub returns : goal.returns
returns c = λ h.
    let so_far = c.loop-run.invariant.settled h in
    let none = runs_end c.loop-run.rest.now c.args.runs.now c.loop-run.run-index (omega arith) so_far.runs in
    sym (so_far.values ∙ (ap (λ os. narrow_after os (take c.loop-run.place c.loop-run.values)) none
    ∙ (narrow_after-none (take c.loop-run.place c.loop-run.values) ∙ take_all c.loop-run.place c.loop-run.values (omega (arith, c.loop-run.invariant.sized, ap length none)))))

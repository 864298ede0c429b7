use Rattle.std.proofs.Common.{◌≤◌, length, subst}
use Rattle.rdl_values.specs.Top.{root}
use Rattle.rdl_open_settings.proofs.Knowing.{all_done, done_none, found_again, next_listed, node_judged, root_judged}
use Rattle.rdl_open_settings.proofs.table.judge_layers.Goals as goal

pub judge-requires-clause-texts : goal.judge-requires-clause-texts
judge-requires-clause-texts c = c.new-texts.ensures c.args.tree.now.bodies c.args.failures.now

pub loop-spot-init : goal.loop-spot-init
loop-spot-init c = record {
  texts = c.in_ok-judge.ensures.texts;
  done = λ e open_. done_none e c.args.tree.now.bodies _ c.judge.new.self c.args.failures.now c.judge.new.failures (c.in_ok-judge.ensures.known (root e.source.now) open_.root_);
}

pub judge-requires-in-loop-spot : goal.judge-requires-in-loop-spot
judge-requires-in-loop-spot c = record {
  kept = (c.loop-spot.invariant.done c.requires.0 c.requires.1).all;
  texts = c.loop-spot.invariant.texts;
  some = node_judged c.requires.0 c.args.tree.now c.deref-spot-items.result.now c.loop-spot.spot-index _ c.requires.1 c.deref-spot-items.ensures.value c.loop-spot-test.true;
}

pub loop-spot-preserved : goal.loop-spot-preserved
loop-spot-preserved c = record {
  texts = c.in_ok-judge-2.ensures.texts;
  done = λ e open_.
      next_listed e c.args.tree.now open_ c.args.failures.now c.loop-spot.spot-index c.loop-spot.table c.judge-in-loop-spot.new.self c.loop-spot.failures c.judge-in-loop-spot.new.failures c.deref-spot-items.result.now c.deref-spot-items.ensures.value _ c.loop-spot-test.true (c.loop-spot.invariant.done e open_) c.in_ok-judge-2.ensures.known;
}

pub returns : goal.returns
returns c = λ e open_. found_again e c.args.tree.now c.loop-spot.table c.fit.new.self c.args.failures.now c.loop-spot.failures c.fit.ensures
    (all_done e c.args.tree.now open_ c.args.failures.now c.loop-spot.spot-index c.loop-spot.table c.loop-spot.failures (subst (λ os. length os ≤ c.loop-spot.spot-index) c.deref-spot-items.ensures.value c.loop-spot-test.false) (c.loop-spot.invariant.done e open_))

pub judge-requires-clause-some : goal.judge-requires-clause-some
judge-requires-clause-some c = root_judged c.requires.0 c.args.tree.now c.requires.1

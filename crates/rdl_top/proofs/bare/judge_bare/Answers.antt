use Rattle.rdl_values.specs.Phase3.{bare_assignment}
use Rattle.rdl_values.specs.Views.{item_is}
use Rattle.rdl_failures.proofs.Noting.{step_noted}
use Rattle.rdl_top.proofs.bare.judge_bare.Goals as goal

pub loop-item-preserved : goal.loop-item-preserved
loop-item-preserved c = step_noted (λ i. bare_assignment (item_is i)) c.args.items.now c.loop-item.item-index c.item-item.result c.loop-item-test.true c.item-item.is _ _ _ _ _ c.loop-item.invariant c.in_ok-clean.ensures

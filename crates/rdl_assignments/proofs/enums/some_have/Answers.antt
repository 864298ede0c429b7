use Rattle.std.proofs.Common.{subst}
use Rattle.rdl_assignments.proofs.Unassigned.{FailsNowhere, items_more, none_fail}
use Rattle.rdl_assignments.proofs.enums.some_have.Goals as goal

pub loop-item-preserved : goal.loop-item-preserved
loop-item-preserved c =
    let x = c.item-item.result in
    items_more c.args.items.now c.loop-item.item-index x c.loop-item-test.true c.loop-item.invariant (subst FailsNowhere c.item-item.is (c.has_some.ensures c.if-has_some.false))

pub returns : goal.returns
returns c = λ q b same. none_fail b c.args.items.now c.loop-item.item-index c.loop-item-test.false c.loop-item.invariant same

use Rattle.std.proofs.Common.{arith}
use Rattle.rdl_bind.proofs.GivenItems.{all-given, one-more}
use Rattle.rdl_bind.proofs.given_items.add_given.Goals as goal

pub loop-prop-preserved : goal.loop-prop-preserved
loop-prop-preserved c = λ e k n here are.
    one-more e k n here c.args.targets.now are c.args.props.now c.loop-prop.prop-index _ c.loop-prop-test.true c.args.list.now.items c.loop-prop.list.items c.add_number.new.list.items c.item_of-number.result (c.loop-prop.invariant e k n here are) c.item_of-number.ensures c.in_ok-add_number.ensures

pub returns : goal.returns
returns c = λ e k n here are.
    all-given e n c.args.props.now c.loop-prop.prop-index (omega (arith, c.loop-prop-test.false)) c.args.list.now.items c.loop-prop.list.items (c.loop-prop.invariant e k n here are)

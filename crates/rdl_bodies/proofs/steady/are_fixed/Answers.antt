use Rattle.std.proofs.Common.{subst}
use Rattle.rdl_bodies.specs.Steady.{IsFixed}
use Rattle.rdl_bodies.proofs.Fixed.{each_all, each_more}
use Rattle.rdl_bodies.proofs.steady.are_fixed.Goals as goal

pub loop-item-preserved : goal.loop-item-preserved
loop-item-preserved c =
    let item = c.item-item.result in
    each_more IsFixed c.args.items.now c.loop-item.item-index item c.loop-item-test.true c.loop-item.invariant (subst IsFixed c.item-item.is (c.is_fixed.ensures c.if-not-is_fixed.false))

pub returns : goal.returns
returns c = λ q. each_all IsFixed c.args.items.now c.loop-item.item-index c.loop-item-test.false c.loop-item.invariant

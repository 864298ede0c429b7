use Rattle.rdl_children.proofs.Sharing.{can_next, done_all, done_more, done_none}
use Rattle.rdl_children.proofs.children.list_uses.Goals as goal

pub loop-item-init : goal.loop-item-init
loop-item-init c = done_none c.args.bodies.now c.args.body.now c.args.items.now _ c.in_ok-list.ensures.items

pub add_uses-requires : goal.add_uses-requires
add_uses-requires c = can_next c.args.bodies.now c.loop-item.bodies c.args.body.now c.args.items.now c.loop-item.item-index c.item-item.result c.loop-item.list.items c.requires c.loop-item-test.true c.item-item.is c.loop-item.invariant

pub loop-item-preserved : goal.loop-item-preserved
loop-item-preserved c = done_more c.args.bodies.now c.loop-item.bodies c.args.body.now c.args.items.now c.loop-item.item-index c.item-item.result c.loop-item.list.items c.requires c.loop-item-test.true c.item-item.is c.loop-item.invariant c.add_uses.new.bodies c.add_uses.new.list.items c.in_ok-add_uses.ensures

pub returns : goal.returns
returns c = done_all c.args.bodies.now c.loop-item.bodies c.args.body.now c.args.items.now c.loop-item.item-index c.loop-item.list.items c.into_bump_slice.result.now c.loop-item-test.false c.into_bump_slice.ensures c.loop-item.invariant

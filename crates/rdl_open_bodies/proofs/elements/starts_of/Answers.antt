use Rattle.rdl_open_bodies.proofs.Started.{starts_all, starts_more, starts_none}
use Rattle.rdl_open_bodies.proofs.elements.starts_of.Goals as goal

pub loop-child-init : goal.loop-child-init
loop-child-init c = starts_none c.args.round.now c.args.most c.args.children.now _ c.new-starts.ensures.items

pub loop-child-preserved : goal.loop-child-preserved
loop-child-preserved c = starts_more c.args.round.now c.args.most c.args.children.now c.loop-child.child-index _ c.loop-child.starts.items c.add_elements.new.starts.items c.loop-child-test.true c.loop-child.invariant c.in_ok-add_elements.ensures

pub returns : goal.returns
returns c = starts_all c.args.round.now c.args.most c.args.children.now c.loop-child.child-index c.loop-child.starts.items c.loop-child-test.false c.loop-child.invariant

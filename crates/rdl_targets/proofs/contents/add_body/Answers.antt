use Rattle.rdl_tree.specs.declared.node.Node.{out-Node}
use Rattle.rdl_targets.proofs.Contained.{all_put, more_put, none_put}
use Rattle.rdl_targets.proofs.contents.add_body.Goals as goal

pub loop-child-init : goal.loop-child-init
loop-child-init c = none_put (out-Node c.args.node.now).id c.args.nodes.now.items

pub loop-child-preserved : goal.loop-child-preserved
loop-child-preserved c = more_put (out-Node c.args.node.now).id (out-Node c.args.node.now).children.now c.loop-child.child-index c.child-item.result c.args.nodes.now.items c.loop-child.nodes.items c.add.new.nodes.items c.loop-child-test.true c.child-item.is c.loop-child.invariant c.in_ok-add.ensures

pub returns : goal.returns
returns c = all_put (out-Node c.args.node.now).id (out-Node c.args.node.now).children.now c.loop-child.child-index c.args.nodes.now.items c.loop-child.nodes.items c.loop-child-test.false c.loop-child.invariant

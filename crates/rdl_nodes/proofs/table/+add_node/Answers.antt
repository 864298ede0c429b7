use Rattle.std.proofs.Common.{Some, refl}
use Rattle.rdl_tree.specs.declared.node.Node.{out-Node}
use Rattle.rdl_nodes.proofs.Adding.{all-added, node-added, none-added, one-added}
use Rattle.rdl_nodes.proofs.table.+add_node.Goals as goal

pub loop-child-init : goal.loop-child-init
loop-child-init t c = none-added (Some (out-Node c.args.node.now).id) c.push.new.self.items

pub loop-child-preserved : goal.loop-child-preserved
loop-child-preserved t c =
    one-added (Some (out-Node c.args.node.now).id) (out-Node c.args.node.now).children.now c.loop-child.child-index c.child-item.result c.push.new.self.items c.loop-child.rows.items c.add_node.new.rows.items c.loop-child-test.true c.child-item.is c.loop-child.invariant c.in_ok-add_node.ensures

pub returns : goal.returns
returns t c =
    node-added c.args.parent c.args.node.now _ c.args.rows.now.items c.push.new.self.items c.loop-child.rows.items refl refl c.in_ok-push.ensures.items
    (all-added (Some (out-Node c.args.node.now).id) (out-Node c.args.node.now).children.now c.loop-child.child-index c.push.new.self.items c.loop-child.rows.items c.loop-child-test.false c.loop-child.invariant)

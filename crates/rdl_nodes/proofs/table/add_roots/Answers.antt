use Rattle.std.proofs.Common.{None}
use Rattle.rdl_nodes.proofs.Adding.{none-added, one-added}
use Rattle.rdl_nodes.proofs.table.add_roots.Goals as goal

pub loop-node-init : goal.loop-node-init
loop-node-init c = none-added None c.args.rows.now.items

pub loop-node-preserved : goal.loop-node-preserved
loop-node-preserved c =
    one-added None c.args.nodes.now c.loop-node.node-index c.node-item.result c.args.rows.now.items c.loop-node.rows.items c.add_node.new.rows.items c.loop-node-test.true c.node-item.is c.loop-node.invariant c.in_ok-add_node.ensures

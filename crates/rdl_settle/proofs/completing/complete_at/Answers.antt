use Rattle.rdl_settle.proofs.Finishing.{completed_at}
use Rattle.rdl_settle.proofs.completing.complete_at.Goals as goal

pub returns : goal.returns
returns c =
    completed_at c.args.tree.now c.args.layers.now c.args.count c.args.row.now.node.now c.args.spot.now c.args.at c.args.entries.now.items c.index_mut.result.now c.complete_node.new.list _ c.args.failures.now c.complete_node.new.failures c.requires c.index_mut.ensures.value
    c.in_ok-complete_node.ensures.entries c.in_ok-complete_node.ensures.noted

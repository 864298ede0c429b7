use Rattle.rdl_nodes.proofs.Keyed.{more-under}
use Rattle.rdl_nodes.proofs.node_index.NodeIndex.put.Goals as goal

pub returns : goal.returns
returns c = more-under (record { body = c.args.body; name = c.args.name.now; index = c.args.index.now }) c.args.node c.args.self.now c.take.new.self (record { bodies = c.insert.new.self }) c.in_ok-bodies.bodies c.put.new.self c.in_ok-bodies.ensures.taken c.in_ok-bodies.ensures.others c.in_ok-put.ensures c.in_ok-insert.ensures.updates

use Rattle.rdl_nodes.proofs.Keyed.{other-index}
use Rattle.rdl_nodes.proofs.node_index.NodeIndex.take.Goals as goal

pub returns-in-Some-clause-others : goal.returns-in-Some-clause-others
returns-in-Some-clause-others c = other-index c.args.index.now c.args.self.now (record { bodies = c.insert.new.self }) c.new.result c.in_ok-bodies.ensures.updates

pub returns-in-None-clause-others : goal.returns-in-None-clause-others
returns-in-None-clause-others c = other-index c.args.index.now c.args.self.now (record { bodies = c.insert.new.self }) c.new.result c.in_ok-bodies.ensures.updates

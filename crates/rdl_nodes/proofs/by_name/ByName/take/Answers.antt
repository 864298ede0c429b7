use Rattle.rdl_nodes.proofs.Keyed.{other-name}
use Rattle.rdl_nodes.proofs.by_name.ByName.take.Goals as goal

pub returns-in-Some-clause-others : goal.returns-in-Some-clause-others
returns-in-Some-clause-others c = other-name c.args.name.now c.args.self.now (record { nodes = c.insert.new.self }) c.new.result c.in_ok-list.ensures.updates

pub returns-in-None-clause-others : goal.returns-in-None-clause-others
returns-in-None-clause-others c = other-name c.args.name.now c.args.self.now (record { nodes = c.insert.new.self }) c.new.result c.in_ok-list.ensures.updates

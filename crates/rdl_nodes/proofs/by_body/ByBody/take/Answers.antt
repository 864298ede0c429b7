use Rattle.rdl_nodes.proofs.Keyed.{other-body}
use Rattle.rdl_nodes.proofs.by_body.ByBody.take.Goals as goal

pub returns-in-Some-clause-others : goal.returns-in-Some-clause-others
returns-in-Some-clause-others c = other-body c.args.body c.args.self.now (record { names = c.insert.new.self }) c.new.result c.in_ok-names.ensures.updates

pub returns-in-None-clause-others : goal.returns-in-None-clause-others
returns-in-None-clause-others c = other-body c.args.body c.args.self.now (record { names = c.insert.new.self }) c.new.result c.in_ok-names.ensures.updates

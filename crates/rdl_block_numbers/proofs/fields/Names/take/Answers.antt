use Rattle.rdl_block_numbers.proofs.Keyed.{other-node}
use Rattle.rdl_block_numbers.proofs.fields.Names.take.Goals as goal

pub returns-in-Some-clause-others : goal.returns-in-Some-clause-others
returns-in-Some-clause-others c = other-node c.args.body c.args.self.now (record { nodes = c.insert.new.self }) c.new.result c.in_ok-names.ensures.updates

pub returns-in-None-clause-others : goal.returns-in-None-clause-others
returns-in-None-clause-others c = other-node c.args.body c.args.self.now (record { nodes = c.insert.new.self }) c.new.result c.in_ok-names.ensures.updates

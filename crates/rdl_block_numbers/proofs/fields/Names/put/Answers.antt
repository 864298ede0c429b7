use Rattle.rdl_block_numbers.proofs.Keyed.{one-under}
use Rattle.rdl_block_numbers.proofs.fields.Names.put.Goals as goal

pub returns : goal.returns
returns c = one-under (record { body = c.args.body; name = c.args.name.now }) c.args.number c.args.self.now c.take.new.self (record { nodes = c.insert.new.self }) c.in_ok-names.names c.put.new.self c.in_ok-names.ensures.taken c.in_ok-names.ensures.others c.in_ok-put.ensures c.in_ok-insert.ensures.updates

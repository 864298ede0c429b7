use Rattle.rdl_nodes.proofs.Keyed.{more-in_body}
use Rattle.rdl_nodes.proofs.by_body.ByBody.put.Goals as goal

pub returns : goal.returns
returns c = more-in_body c.args.body c.args.name.now c.args.node c.args.self.now c.take.new.self (record { names = c.insert.new.self }) c.in_ok-names.names c.put.new.self c.in_ok-names.ensures.taken c.in_ok-names.ensures.others c.in_ok-put.ensures c.in_ok-insert.ensures.updates

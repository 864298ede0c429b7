use Rattle.rdl_nodes.proofs.Keyed.{more-named}
use Rattle.rdl_nodes.proofs.by_name.ByName.put.Goals as goal

pub returns : goal.returns
returns c = more-named c.args.name.now c.args.node c.args.self.now c.take.new.self (record { nodes = c.insert.new.self }) c.in_ok-list.list.items c.push.new.self c.in_ok-list.ensures.taken c.in_ok-list.ensures.others c.in_ok-push.ensures.items c.in_ok-insert.ensures.updates

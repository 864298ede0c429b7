use Rattle.std.proofs.lemmas.Map.Text.{btree_map_updates_str}
use Rattle.v_check.proofs.Tables.{nets_again, nets_new}
use Rattle.v_check.proofs.nets.Table.push.Goals as goal

pub returns-then-declares-clause-nets : goal.returns-then-declares-clause-nets
returns-then-declares-clause-nets c = λ ns h is. nets_again c.args.self.now c.args.self.now ns c.args.net h (c.if-declares.ensures ns h)

pub returns-clause-nets : goal.returns-clause-nets
returns-clause-nets c = λ ns h is.
    nets_new c.args.self.now (record { numbers = c.insert.new.self }) ns c.args.net h c.args.number is (c.if-declares.ensures ns h)
    (btree_map_updates_str c.args.net.name.now c.args.self.now.numbers c.insert.new.self _ c.in_ok-insert.ensures.updates)

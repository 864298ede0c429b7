use Rattle.std.proofs.Common.{◌∙◌, sym, ap, is_some}
use Rattle.std.proofs.lemmas.Map.Text.{btree_map_updates_str}
use Rattle.rdl_values.proofs.Named.{put_again, put_new}
use Rattle.rdl_values.proofs.firsts.Firsts.put.Goals as goal

pub returns-then-is_some-clause-put : goal.returns-then-is_some-clause-put
returns-then-is_some-clause-put c = put_again c.args.name.now c.args.place c.args.self.now (ap is_some (sym c.find.ensures) ∙ sym c.is_some.ensures ∙ c.if-is_some.true)

pub returns-clause-put : goal.returns-clause-put
returns-clause-put c =
    put_new c.args.name.now c.args.place c.args.self.now (record { places = c.insert.new.self }) (ap is_some (sym c.find.ensures) ∙ sym c.is_some.ensures ∙ c.if-is_some.false)
    (btree_map_updates_str c.args.name.now c.args.self.now.places c.insert.new.self _ c.in_ok-insert.ensures.updates)

use Rattle.std.proofs.Common.{◌∙◌, sym, ap, is_some}
use Rattle.std.proofs.lemmas.Map.Text.{btree_map_updates_str}
use Rattle.drive_names.proofs.Tables.{put_again, put_new}
use Rattle.drive_names.proofs.table.Table.put.Goals as goal

pub returns-then-is_some : goal.returns-then-is_some
returns-then-is_some c = put_again c.args.name.now c.args.meaning c.args.self.now (ap is_some (sym c.find.ensures) ∙ sym c.is_some.ensures ∙ c.if-is_some.true)

pub returns : goal.returns
returns c =
    put_new c.args.name.now c.args.meaning c.args.self.now (record { meanings = c.insert.new.self }) (ap is_some (sym c.find.ensures) ∙ sym c.is_some.ensures ∙ c.if-is_some.false)
    (btree_map_updates_str c.args.name.now c.args.self.now.meanings c.insert.new.self _ c.in_ok-insert.ensures.updates)

use Rattle.std.proofs.Common.{◌∙◌, sym, ap, is_some}
use Rattle.rdl_block_numbers.proofs.Keyed.{named-again, named-new}
use Rattle.rdl_block_numbers.proofs.field_names.FieldNames.put.Goals as goal

pub returns-then-is_some : goal.returns-then-is_some
returns-then-is_some c = named-again c.args.name.now c.args.number c.args.self.now (ap is_some (sym c.find.ensures) ∙ (sym c.is_some.ensures ∙ c.if-is_some.true))

pub returns : goal.returns
returns c = named-new c.args.name.now c.args.number c.args.self.now (record { numbers = c.insert.new.self }) (ap is_some (sym c.find.ensures) ∙ (sym c.is_some.ensures ∙ c.if-is_some.false)) c.in_ok-insert.ensures.updates

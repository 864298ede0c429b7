use Rattle.std.proofs.Common.{ap, ◌∙◌, is_some}
use Rattle.v_check.proofs.Tables.{is_some-first_number}
use Rattle.v_check.proofs.nets.Table.declares.Goals as goal

pub returns : goal.returns
returns c = λ ns h. c.is_some.ensures ∙ (ap is_some (c.find.ensures ∙ h.at c.args.name.now) ∙ is_some-first_number ns c.args.name.now)

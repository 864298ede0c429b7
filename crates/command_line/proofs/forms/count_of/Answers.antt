use Rattle.std.proofs.Common.{◌∙◌, sym}
use Rattle.std.specs.declared.num.ParseIntError.{ParseIntError}
use Rattle.command_line.proofs.Counting.{count-is, count-other, count-unread}
use Rattle.command_line.proofs.forms.count_of.Goals as goal

pub returns-in_default : goal.returns-in_default
returns-in_default c = sym (count-unread c.args.word.now c.in_default.field-0 c.in_default.ensures.value.0)

pub returns-then-gives : goal.returns-then-gives
returns-then-gives c = sym (count-is c.args.word.now c.in-Ok.count (sym c.gives.ensures ∙ c.if-gives.true))

pub returns-else-gives : goal.returns-else-gives
returns-else-gives c = sym (count-other ParseIntError c.args.word.now c.in-Ok.count c.in-Ok.ensures.value.0 (sym c.gives.ensures ∙ c.if-gives.false))

use Rattle.std.proofs.Common.{◌∙◌, ap, sym}
use Rattle.rdl_values.proofs.Tables.{none-shown, over-itself, over-shown, without_enums}
use Rattle.rdl_values.proofs.table.Table.over.Goals as goal

pub returns-then-is_empty : goal.returns-then-is_empty
returns-then-is_empty c = λ xs k t h. c.new.ensures ∙ ap without_enums (sym (none-shown xs k t (sym (c.is_empty.ensures xs k t h) ∙ c.if-is_empty.true)))

pub over-names-requires : goal.over-names-requires
over-names-requires c = over-itself c.args.parameters c.requires.0 c.requires.1 c.requires.2 c.requires.3

pub returns : goal.returns
returns c = λ xs k t h. c.in_ok-new.ensures.ok ∙ c.over-names.ensures ∙ ap without_enums (over-shown c.args.parameters xs k t h)

use Rattle.std.proofs.Common.{◌∙◌, ap, sym}
use Rattle.std.specs.Option.{option_copied}
use Rattle.rdl_bits.proofs.field.field_of.Goals as goal

pub returns-then-is_fit-clause-field : goal.returns-then-is_fit-clause-field
returns-then-is_fit-clause-field c = λ around beside n shown here says text kind.
    c.of_text-field.ensures.field around beside n shown here says text (sym says.inst ∙ ap option_copied c.in_ok-child.was) kind (c.is_fit.ensures.0 c.if-is_fit.true).range_

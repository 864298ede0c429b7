use Rattle.std.proofs.Common.{◌∙◌, sym, ap}
use Rattle.rdl_block_numbers.specs.Listed as lists
use Rattle.rdl_block_numbers.proofs.listed.is_listed.Goals as goal

pub returns-in-Fields : goal.returns-in-Fields
returns-in-Fields c = λ e k l clean are row. c.is_own_field.ensures e k l clean are row ∙ ap (λ x. lists.is_listed x l) (sym c.in-Fields.is)

use Rattle.std.proofs.Common.{◌∙◌}
use Rattle.rdl_ref_items.proofs.Items.{told-some}
use Rattle.rdl_ref_items.proofs.aliased.is_alias.Goals as goal

pub returns : goal.returns
returns c = λ e k l clean at row. c.is_some.ensures ∙ told-some e l.node c.primary.result (c.primary.ensures e k l clean at row)

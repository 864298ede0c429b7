use Rattle.std.proofs.Common.{◌∙◌, ◌&&◌, not, ap}
use Rattle.rdl_tree.specs.declared.item.Kind.TheVariants as kinds
use Rattle.rdl_tree.specs.Kinds.{same_kind}
use Rattle.rdl_field_list.proofs.Listing.{tells-alias}
use Rattle.rdl_field_list.proofs.list.is_primary.Goals as goal

pub returns : goal.returns
returns c = λ e k l clean at row.
    (λ i. (c.is_register.ensures ∙ ap (same_kind kinds.Reg) row.says.kind) i && not ((c.is_some.ensures ∙ tells-alias e l.node c.primary.result (c.primary.ensures e k l clean at row)) i))

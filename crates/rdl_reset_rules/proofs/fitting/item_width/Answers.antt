use Rattle.std.proofs.Common.{◌∙◌, sym}
use Rattle.rdl_ref_items.proofs.Items.{item-node}
use Rattle.rdl_reset_rules.proofs.Items.{width-value}
use Rattle.rdl_reset_rules.proofs.fitting.item_width.Goals as goal

pub returns-in-Value : goal.returns-in-Value
returns-in-Value c = λ e i facts h.
    let value = sym h.what_ ∙ c.in-Value.is in
    (facts.of_each c.args.item.node i.node (item-node e i c.args.item h) (h.value value)).width_ ∙ width-value i value

use Rattle.rdl_verdict_laws.proofs.Items.{one_items}
use Rattle.rdl_verdict_laws.proofs.tree_laws.one_tree.Goals as goal

pub returns : goal.returns
returns c = one_items

use Rattle.rdl_nodes.proofs.Lineages.{all_nodes}
use Rattle.rdl_nodes.proofs.laws.lineages_are_nodes.Goals as goal

pub returns : goal.returns
returns c = all_nodes

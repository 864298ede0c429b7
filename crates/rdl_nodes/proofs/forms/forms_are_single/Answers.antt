use Rattle.rdl_nodes.proofs.Nodes.{nodes_single}
use Rattle.rdl_nodes.proofs.forms.forms_are_single.Goals as goal

pub returns : goal.returns
returns c = nodes_single

use Rattle.rdl_layers.proofs.First.{first_decides}
use Rattle.rdl_layers.proofs.laws.first_related_decides.Goals as goal

pub returns : goal.returns
returns c = first_decides

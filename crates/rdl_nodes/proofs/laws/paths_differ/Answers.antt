use Rattle.rdl_nodes.proofs.Paths.{paths_differ}
use Rattle.rdl_nodes.proofs.laws.paths_differ.Goals as goal

pub returns : goal.returns
returns c = paths_differ

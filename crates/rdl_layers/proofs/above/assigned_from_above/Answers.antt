use Rattle.rdl_layers.proofs.Turns.{all-turns}
use Rattle.rdl_layers.proofs.above.assigned_from_above.Goals as goal

pub returns : goal.returns
returns c = all-turns

use Rattle.rdl_values.proofs.Around.{nodes_around}
use Rattle.rdl_values.proofs.laws.scopes_are_bodies.Goals as goal

pub returns : goal.returns
returns c = nodes_around

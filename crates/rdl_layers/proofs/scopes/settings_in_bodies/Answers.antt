use Rattle.rdl_layers.proofs.Applied.{all-scoped}
use Rattle.rdl_layers.proofs.scopes.settings_in_bodies.Goals as goal

pub returns : goal.returns
returns c = λ wanted s. all-scoped wanted s (c.scopes_are_bodies.ensures wanted s)

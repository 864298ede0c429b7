use Rattle.rdl_values.specs.Lineages.{lineages}
use Rattle.rdl_refs.specs.Items.{target}
use Rattle.rdl_refs.specs.Leads.{led_to}
use Rattle.rdl_refs.proofs.OneTarget.{at_most_length, one_node, one_target}
use Rattle.rdl_refs.proofs.laws.one_target.Goals as goal

pub returns-clause-node : goal.returns-clause-node
returns-clause-node c wanted s p scope = at_most_length (led_to (lineages wanted s) p scope) (one_node wanted s p scope)

pub returns-clause-item : goal.returns-clause-item
returns-clause-item c wanted s m = at_most_length (target (lineages wanted s) m) (one_target wanted s m)

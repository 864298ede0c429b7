use Rattle.rdl_nodes.proofs.Members.{in-to}
use Rattle.rdl_nodes.proofs.Order.{behind, few, once}
use Rattle.rdl_values.specs.Instances.{children}
use Rattle.rdl_nodes.proofs.ancestors.lineages_in_order.Goals as goal

pub returns-clause-once : goal.returns-clause-once
returns-clause-once c = once

pub returns-clause-behind : goal.returns-clause-behind
returns-clause-behind c w s j l a up e f = let h = behind w s j l a up e f in (h.0, h.1, h.2, in-to (children a) l.node h.3)

pub returns-clause-few : goal.returns-clause-few
returns-clause-few c = few

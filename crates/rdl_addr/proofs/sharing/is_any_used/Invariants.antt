use Rattle.std.proofs.Common.{◌≡◌, false, List, take, filter}
use Rattle.std.specs.List.{list_any}
use Rattle.rdl_tree.specs.declared.item.Kind.TheVariants as kind
use Rattle.rdl_values.specs.Instances.{Instance, children}
use Rattle.rdl_values.specs.Lineages.{lineages_of}
use Rattle.rdl_layers.specs.Fields.{is_a}
use Rattle.rdl_nodes.specs.Rows.{AreInside}
use Rattle.rdl_addr.specs.Uses.{used}
use Rattle.rdl_addr.proofs.sharing.is_any_used.Given as goal

abbrev pub invariant-loop-node : goal.invariant-loop-node
invariant-loop-node l = (n : Instance) (ancestors : List Instance) → AreInside (lineages_of l.props) ancestors l.nodes l.nodes (children n) → list_any (used l.how) (filter (is_a kind.Field) (take l.node-index (children n))) ≡ false

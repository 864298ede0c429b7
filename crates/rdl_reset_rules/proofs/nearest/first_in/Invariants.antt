use Rattle.std.proofs.Common.{◌≡◌, List, [], filter, take}
use Rattle.rdl_values.specs.Instances.{Instance}
use Rattle.rdl_rules.specs.Fields.{is_field_reset}
use Rattle.rdl_reset_rules.specs.Said.{AreSaid}
use Rattle.rdl_reset_rules.proofs.nearest.first_in.Given as goal

abbrev pub invariant-loop-node : goal.invariant-loop-node
invariant-loop-node l = (ns : List Instance) → AreSaid l.props l.nodes ns → filter is_field_reset (take l.node-index ns) ≡ []

use Rattle.std.proofs.Common.{◌≡◌, Some, slice_get, take}
use Rattle.rdl_props.specs.Table.{reference_props}
use Rattle.rdl_values.specs.Elaborated.{nodes_of}
use Rattle.rdl_values.specs.Instances.{Instance}
use Rattle.rdl_resolve.specs.Named.{AddsAims}
use Rattle.rdl_resolve.proofs.node.add_node.Given as goal

abbrev pub invariant-loop-prop : goal.invariant-loop-prop
invariant-loop-prop l = (n : Instance) → slice_get (nodes_of l.props) l.node ≡ Some n → AddsAims l.props n (take l.prop-index reference_props) l.initial.items.items l.items.items l.initial.faults.items l.faults.items

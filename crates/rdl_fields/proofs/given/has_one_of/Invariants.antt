use Rattle.std.proofs.Common.{◌≡◌, false, Some, slice_get, take}
use Rattle.rdl_values.specs.Elaborated.{nodes_of}
use Rattle.rdl_values.specs.Instances.{Instance}
use Rattle.rdl_layers.specs.Fields as fields
use Rattle.rdl_fields.proofs.given.has_one_of.Given as goal

abbrev pub invariant-loop-prop : goal.invariant-loop-prop
invariant-loop-prop l = (n : Instance) → slice_get (nodes_of l.props) l.node ≡ Some n → fields.has_one_of (take l.prop-index l.list) n ≡ false

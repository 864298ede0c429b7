use Rattle.std.proofs.Common.{◌≡◌, ◌^◌, false, Some, slice_get, take}
use Rattle.std.specs.List.{list_any}
use Rattle.rdl_values.specs.Elaborated.{nodes_of}
use Rattle.rdl_values.specs.Instances.{Instance}
use Rattle.rdl_layers.specs.Settings.{setting}
use Rattle.rdl_rules.specs.FieldRules as rules
use Rattle.rdl_field_rules.proofs.numbers.is_one_above.Given as goal

abbrev pub invariant-loop-prop : goal.invariant-loop-prop
invariant-loop-prop l = (n : Instance) → slice_get (nodes_of l.props) l.node ≡ Some n → list_any (λ p. rules.is_above (2 ^ l.width) (setting n p)) (take l.prop-index l.list) ≡ false

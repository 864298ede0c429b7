use Rattle.std.proofs.Common.{◌≡◌, flat_map, take, Some, slice_get}
use Rattle.rdl_props.specs.Table as table
use Rattle.rdl_values.specs.Elaborated.{nodes_of}
use Rattle.rdl_values.specs.Instances.{Instance}
use Rattle.rdl_values.specs.Lineages.{lineages_of}
use Rattle.rdl_failures.specs.Noted.{with_all}
use Rattle.rdl_rules.specs.ReferenceRules.{bad_target}
use Rattle.rdl_reset_rules.proofs.references.judge_references.Given as goal

abbrev pub invariant-loop-prop : goal.invariant-loop-prop
invariant-loop-prop l = (n : Instance) → slice_get (nodes_of l.props) l.node ≡ Some n → l.failures ≡ with_all (flat_map (bad_target (lineages_of l.props) n) (take l.prop-index table.reference_props)) l.initial.failures

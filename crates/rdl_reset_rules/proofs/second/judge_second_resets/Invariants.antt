use Rattle.std.proofs.Common.{◌≡◌, List, take}
use Rattle.std.specs.List.{list_any}
use Rattle.rdl_values.specs.Instances.{Instance}
use Rattle.rdl_failures.specs.Noted.{with_all}
use Rattle.rdl_rules.specs.Fields.{is_field_reset}
use Rattle.rdl_rules.specs.ReferenceRules.{second_reset}
use Rattle.rdl_reset_rules.specs.Said.{AreSaid}
use Rattle.rdl_reset_rules.proofs.second.judge_second_resets.Given as goal

abbrev pub invariant-loop-node : goal.invariant-loop-node
invariant-loop-node l = (ns : List Instance) → AreSaid l.props l.nodes ns → (l.found ≡ list_any is_field_reset (take l.node-index ns)) × (l.failures ≡ with_all (second_reset (take l.node-index ns)) l.initial.failures)

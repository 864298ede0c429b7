use Rattle.std.proofs.Common.{◌≡◌, ◌++◌, flat_map, take}
use Rattle.rdl_values.specs.Elaborated.{nodes_of}
use Rattle.rdl_values.specs.Instances.{children}
use Rattle.rdl_values.specs.Lineages.{lineages_of}
use Rattle.rdl_failures.specs.Noted.{with_all}
use Rattle.rdl_rules.specs.ReferenceRules.{second_reset, wide_reset}
use Rattle.rdl_meaning_rules.proofs.resets.judge_all_resets.Given as goal

abbrev pub invariant-loop-at : goal.invariant-loop-at
invariant-loop-at l = l.failures ≡ with_all (flat_map (λ n. wide_reset (lineages_of l.props) n ++ second_reset (children n)) (take l.at (nodes_of l.props))) l.initial.failures

use Rattle.std.proofs.Common.{◌≡◌, flat_map, take}
use Rattle.rdl_values.specs.Elaborated.{nodes_of}
use Rattle.rdl_failures.specs.Noted.{with_all}
use Rattle.rdl_rules.specs.Phase7.{narrow_register}
use Rattle.rdl_meaning_rules.proofs.accesses.judge_accesses.Given as goal

abbrev pub invariant-loop-at : goal.invariant-loop-at
invariant-loop-at l = l.failures ≡ with_all (flat_map narrow_register (take l.at (nodes_of l.props))) l.initial.failures

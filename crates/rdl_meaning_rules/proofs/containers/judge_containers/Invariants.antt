use Rattle.std.proofs.Common.{◌≡◌, flat_map, take}
use Rattle.rdl_tree.specs.declared.node.Elab.{Elab}
use Rattle.rdl_values.specs.Elaborated.{nodes_of}
use Rattle.rdl_failures.specs.Noted.{with_all}
use Rattle.rdl_nodes.specs.Rows.{AreRows}
use Rattle.rdl_rules.specs.RegisterRules.{empty_container}
use Rattle.rdl_meaning_rules.proofs.containers.judge_containers.Given as goal

abbrev pub invariant-loop-at : goal.invariant-loop-at
invariant-loop-at l = (e : Elab) → AreRows e l.rows → l.failures ≡ with_all (flat_map empty_container (take l.at (nodes_of e))) l.initial.failures

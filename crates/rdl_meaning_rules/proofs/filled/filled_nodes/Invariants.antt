use Rattle.rdl_tree.specs.declared.node.Elab.{Elab}
use Rattle.rdl_nodes.specs.Rows.{AreRows}
use Rattle.rdl_meaning_rules.specs.Filled.{AreFilledFrom}
use Rattle.rdl_meaning_rules.proofs.filled.filled_nodes.Given as goal

abbrev pub invariant-loop-at : goal.invariant-loop-at
invariant-loop-at l = (e : Elab) → AreRows e l.rows → AreFilledFrom e l.at l.filled.items

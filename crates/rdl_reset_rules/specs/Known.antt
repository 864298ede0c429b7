-- What the rules on references are given of a tree.
use Rattle.std.specs.Prelude.{◌≡◌, List}
use Rattle.rdl_tree.specs.declared.node.Elab.{Elab}
use Rattle.rdl_values.specs.Elaboration.{IsClean}
use Rattle.rdl_nodes.specs.declared.table.Row.{Row}
use Rattle.rdl_nodes.specs.Rows.{AreRows}
use Rattle.rdl_rules.specs.declared.fact.Fact.{Fact}
use Rattle.rdl_rules.specs.Facts.{AreFacts}
use Rattle.rdl_ref_items.specs.declared.interrupt_outputs.InterruptOutputs.{InterruptOutputs}
use Rattle.rdl_ref_items.specs.InterruptOutputs.{AreInterruptOutputs}

-- The tree is clean, and these are its rows, its facts and its marks.
pub record AreKnown (e : Elab) (rows : List Row) (facts : List Fact) (marks : List InterruptOutputs) : Type 0 where
  pub clean : IsClean e
  pub rows_ : AreRows e rows
  pub facts_ : AreFacts e facts
  pub marks_ : AreInterruptOutputs e marks

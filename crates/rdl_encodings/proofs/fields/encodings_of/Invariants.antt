use Rattle.std.proofs.Common.{flat_map, take}
use Rattle.rdl_tree.specs.declared.node.Elab.{Elab}
use Rattle.rdl_values.specs.Elaborated.{nodes_of}
use Rattle.rdl_values.specs.Elaboration.{IsClean}
use Rattle.rdl_nodes.specs.Rows.{AreRows}
use Rattle.rdl_open_bodies.specs.Spots.{IsOpenTree}
use Rattle.rdl_facts.specs.Told.{AreTold}
use Rattle.rdl_encodings.specs.Numbered.{AreNumbered}
use Rattle.rdl_encodings.specs.Standing.{own_fields}
use Rattle.rdl_encodings.proofs.fields.encodings_of.Given as goal

abbrev pub invariant-loop-row : goal.invariant-loop-row
invariant-loop-row l = (e : Elab) → IsClean e → AreRows e l.rows → IsOpenTree e l.tree → AreTold e l.entries → AreNumbered l.numbering l.enums (flat_map own_fields (take l.row-index (nodes_of e)))

use Rattle.std.proofs.Common.{List, take}
use Rattle.rdl_props.specs.declared.prop.Prop.{Prop}
use Rattle.rdl_tree.specs.declared.node.Elab.{Elab}
use Rattle.rdl_values.specs.Elaborated.{nodes_of}
use Rattle.rdl_values.specs.Elaboration.{IsClean}
use Rattle.rdl_refs.specs.Items.{Item}
use Rattle.rdl_resolve.specs.Named.{AreItemsNamed}
use Rattle.rdl_bind.specs.Numbered.{AreNumbers}
use Rattle.rdl_bind.specs.Targeted.{AllHave, AreNumbered}
use Rattle.rdl_bind.proofs.target_table.node_targets.Given as goal

abbrev pub invariant-loop-each : goal.invariant-loop-each
invariant-loop-each l = (e : Elab) (ys : List (Prop × Item)) → IsClean e → AreNumbers e l.numbers → AreItemsNamed (nodes_of e) l.named ys → AllHave ys → AreNumbered e l.targets.items (take l.each-index ys)

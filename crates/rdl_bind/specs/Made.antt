-- The tables of the references of a tree.
use Rattle.std.specs.Prelude.{◌≡◌}
use Rattle.topological_order.specs.Levels.{AreWithin}
use Rattle.rdl_tree.specs.declared.node.Elab.{Elab}
use Rattle.rdl_values.specs.Lineages.{lineages_of}
use Rattle.rdl_refs.specs.Follows.{edges_of}
use Rattle.rdl_bind.specs.Numbered.{AreNumbers}
use Rattle.rdl_bind.specs.Targeted.{AreTargets}
use Rattle.rdl_bind.specs.declared.tables.ItemTables.{ItemTables}

-- All items and their numbers, what each refers to, and what the settings of each node name.
pub record AreMade (e : Elab) (x : ItemTables) : Type 0 where
  pub numbers_ : AreNumbers e x.numbers
  pub refer : x.edges ≡ edges_of (lineages_of e)
  pub within : AreWithin x.edges
  pub targets_ : AreTargets e x.targets.items

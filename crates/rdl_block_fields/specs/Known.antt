-- What is known of a tree.
use Rattle.std.specs.Prelude.{◌≡◌}
use Rattle.std.specs.List.{list_any}
use Rattle.rdl_tree.specs.declared.node.Elab.{Elab}
use Rattle.rdl_values.specs.Elaboration.{IsClean}
use Rattle.rdl_values.specs.Instances.{Instance}
use Rattle.rdl_values.specs.Lineages.{Lineage, child_of, lineages_of, nodes_in}
use Rattle.rdl_values.specs.Uses.{path_text}
use Rattle.rdl_layers.specs.Fields.{is_once, is_touched, views}
use Rattle.rdl_layers.specs.Phase4.{width_of}
use Rattle.rdl_nodes.specs.Rows.{AreRows}
use Rattle.rdl_block_numbers.specs.Numbers.{AreOwn}
use Rattle.rdl_rules.specs.Fields.{reset_by, shown_of}
use Rattle.rdl_rules.specs.Numbers.{Numbered}
use Rattle.rdl_block_fields.specs.declared.facts.FieldFacts.{FieldFacts}
use Rattle.rdl_block_fields.specs.declared.feeding.NumberedTree.{NumberedTree}

-- The tree is clean, and the references, the rows and the numbers are its own.
pub record IsNumberedTree (k : NumberedTree) : Type 0 where
  pub clean : IsClean k.props.now
  pub refs_ : k.refs.now ≡ k.props.now
  pub rows_ : AreRows k.props.now k.rows.now
  pub own_ : AreOwn k.props.now k.own.now

-- The facts are those of a field in a register that is no alias.
pub record AreFieldFacts (e : Elab) (r : Numbered Lineage) (f : Instance) (x : FieldFacts) : Type 0 where
  pub path_ : x.path ≡ path_text f.path
  pub register_ : x.register ≡ r.number
  pub width_ : x.width ≡ width_of f
  pub reset_ : x.reset_by ≡ reset_by e.source.now (lineages_of e) (child_of r.register f)
  pub shown_ : x.shown ≡ shown_of f
  pub touched_ : x.is_touched ≡ is_touched (views (nodes_in (lineages_of e)) r.register.node f)
  pub once_ : x.is_once ≡ list_any is_once (views (nodes_in (lineages_of e)) r.register.node f)

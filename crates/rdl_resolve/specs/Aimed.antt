-- What a setting names.
use Rattle.std.specs.Prelude.{◌≡◌, option_to_list}
use Rattle.rdl_props.specs.declared.prop.Prop.{Prop}
use Rattle.rdl_tree.specs.declared.node.Elab.{Elab}
use Rattle.rdl_values.specs.Elaborated.{nodes_of}
use Rattle.rdl_values.specs.Elaboration.{IsClean}
use Rattle.rdl_values.specs.Lineages.{lineages_of}
use Rattle.rdl_layers.specs.Settings.{Meaning}
use Rattle.rdl_nodes.specs.Rows.{AreRows}
use Rattle.rdl_refs.specs.Answers.{AreItemsOf}
use Rattle.rdl_refs.specs.Items.{bad_reference, target}
use Rattle.rdl_members.specs.Found.{AreMembersOf}
use Rattle.rdl_resolve.specs.Outers.{AreOuters}
use Rattle.rdl_resolve.specs.declared.aims.Aim.{Aim}
use Rattle.rdl_resolve.specs.declared.aims.NamedTree.{NamedTree}

-- The item that the setting names, if it names one, and its failure, if it fails.
pub record IsAim (e : Elab) (p : Prop) (m : Meaning) (a : Aim) : Type 0 where
  pub target_ : AreItemsOf (nodes_of e) (option_to_list a.target) (target (lineages_of e) m)
  pub fault_ : option_to_list a.fault ≡ bad_reference (lineages_of e) p m

-- What is known of a tree.
pub record IsNamedTree (k : NamedTree) : Type 0 where
  pub clean : IsClean k.elab.now
  pub rows_ : AreRows k.elab.now k.rows.now
  pub members_ : AreMembersOf k.elab.now k.members.now
  pub outers_ : AreOuters k.elab.now k.outers.now

-- A node of which no rule fails.
use Rattle.std.specs.Prelude.{◌≡◌, false, true, List, [], Option, is_some}
use Rattle.rb_base.specs.declared.place.Place.{Place}
use Rattle.rdl_props.specs.declared.prop.Prop.{Prop}
use Rattle.rdl_tree.specs.declared.expr.Name.{Name}
use Rattle.rdl_tree.specs.declared.expr.Path.{Path}
use Rattle.rdl_values.specs.Bodies.{Scope}
use Rattle.rdl_values.specs.Instances.{Instance}
use Rattle.rdl_values.specs.Lineages.{Lineage}
use Rattle.rdl_layers.specs.Forms.{reference}
use Rattle.rdl_layers.specs.Phase4.{bad_width}
use Rattle.rdl_layers.specs.Settings.{setting}
use Rattle.rdl_rules.specs.Feeds.{item_at}
use Rattle.rdl_rules.specs.FieldRules.{of_primary}

-- Each reference of the node leads to an item.
pub record Leads (all : List Lineage) (n : Instance) : Type 0 where
  pub to_item : (p : Prop) (path : Path) (item : Option Name) (scope : Scope) (place : Place) → setting n p ≡ reference path item scope place → is_some (item_at all n p) ≡ true

-- None of the rules on a field fails, its width is one that a field may have, and its references lead to items.
pub record IsFaultless (all : List Lineage) (f : Instance) : Type 0 where
  pub rules : of_primary f ≡ []
  pub width : bad_width f ≡ false
  pub leads : Leads all f

-- What a reference means, where no rule fails.
use Rattle.std.specs.Prelude.{◌≡◌, true, false}
use Rattle.rdl_props.specs.declared.prop.Prop.{Prop}
use Rattle.rdl_values.specs.Instances.{Instance}
use Rattle.rdl_layers.specs.Phase4.{width_of}
use Rattle.rdl_refs.specs.Follows.{is_in_alias, is_missing}
use Rattle.rdl_refs.specs.Items.{Item}
use Rattle.rdl_rules.specs.ReferenceRules.{fit_of, fits, item_width}

-- The item is as wide as the property of the node asks, is not missing, and is not in an alias.
pub record IsMeant (n : Instance) (p : Prop) (i : Item) : Type 0 where
  pub as_wide : fits (fit_of p) (width_of n) (item_width i) ≡ true
  pub there : is_missing i ≡ false
  pub own : is_in_alias i ≡ false

-- The failures of one reference.
use Rattle.std.specs.Prelude.{◌≡◌, ℕ, not, List, ◌++◌, Option, None, Some}
use Rattle.rdl_base.specs.declared.fault.Fault.{Fault}
use Rattle.rb_base.specs.declared.place.Place.{Place}
use Rattle.rdl_base.specs.declared.rule.Rule.TheVariants as rules
use Rattle.rdl_props.specs.declared.prop.Prop.{Prop}
use Rattle.rdl_values.specs.Uses.{at_, when}
use Rattle.rdl_layers.specs.Settings.{Meaning, reference}
use Rattle.rdl_refs.specs.Items.{Item}
use Rattle.rdl_refs.specs.Follows.{is_in_alias, is_missing}
use Rattle.rdl_rules.specs.ReferenceRules.{fit_of, fits, item_width}

-- R3 to R5, of an item that a property of a field of this width names at a place
abbrev pub of_item : Prop → ℕ → Place → Item → List Fault
of_item p width place i = when (not (fits (fit_of p) width (item_width i))) (at_ rules.R3 place) ++ when (is_missing i) (at_ rules.R4 place) ++ when (is_in_alias i) (at_ rules.R5 place)

-- the place of a reference, and none of what is no reference
abbrev pub TellsPlace : Meaning → Option Place → Type 0
TellsPlace (reference path item scope place) at = at ≡ Some place
TellsPlace _ at = at ≡ None

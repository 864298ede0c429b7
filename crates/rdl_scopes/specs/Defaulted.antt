-- What the parameters of the definitions of a text have at all uses.
use Rattle.std.specs.Prelude.{◌≡◌, ℕ, List, [], Option, None, Some, option_map, slice_get}
use Rattle.std.specs.BTreeMap.{get}
use Rattle.std.specs.Ordering.{nat_cmp}
use Rattle.std.specs.Rc.{rc_value}
use Rattle.rdl_tree.specs.declared.item.Item.{Item}
use Rattle.rdl_values.specs.Kept.{AreDefaultsOf}
use Rattle.rdl_values.specs.Views as view
use Rattle.rdl_values.specs.Views.{ItemIs, item_is}
use Rattle.rdl_values.specs.declared.defaults.Defaults.{Defaults}
use Rattle.rdl_scopes.specs.declared.text_defaults.TextDefaults.{TextDefaults}

-- those of the item of a number
abbrev pub defaults_at : TextDefaults → ℕ → Option Defaults
defaults_at t k = option_map rc_value (get nat_cmp t.by_item k)

-- they are those of the definition that an item is
abbrev pub AreOfAs : Defaults → ItemIs → Type 0
AreOfAs d (view.definition def) = AreDefaultsOf d def.params.now
AreOfAs d _ = ⊥

abbrev pub AreOfItem : Defaults → Option Item → Type 0
AreOfItem d None = ⊥
AreOfItem d (Some i) = AreOfAs d (item_is i)

-- Each are those of its item.
pub record AreTextDefaults (t : TextDefaults) (items : List Item) : Type 0 where
  pub none : AreDefaultsOf t.none.value []
  pub each : (k : ℕ) (d : Defaults) → defaults_at t k ≡ Some d → AreOfItem d (slice_get items k)

-- nothing is known of them, or they are those of these items
abbrev pub AreKnown : Option TextDefaults → List Item → Type 0
AreKnown None items = Unit {0}
AreKnown (Some t) items = AreTextDefaults t items

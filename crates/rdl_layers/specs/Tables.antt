-- The table that the settings of a tree are kept in.
use Rattle.std.specs.Prelude.{◌≡◌, ℕ, ◌<◌, Bool, false, not, ◌&&◌, cond, List, [], map, find, length, slice_index_or, Option, None, Some, is_some, Vec}
use Rattle.std.specs.Global.{Global}
use Rattle.rdl_props.specs.declared.prop.Prop.{Prop}
use Rattle.rdl_props.specs.declared.prop.Prop.TheVariants as prop
use Rattle.rdl_props.specs.Same.{same_prop}
use Rattle.rdl_props.specs.Table.{Default, default_of, group_of}
use Rattle.rdl_props.specs.Table as table
use Rattle.rdl_tree.specs.declared.node.Elab.{Elab}
use Rattle.rdl_layers.specs.declared.setting.Setting.{Setting}
use Rattle.rdl_layers.specs.declared.setting.Setting.TheVariants as set
use Rattle.rdl_layers.specs.declared.props.PropSetting.{PropSetting}
use Rattle.rdl_layers.specs.declared.props.Props.TheInside.{Inside}
use Rattle.rdl_layers.specs.Answers.{SaysAt}
use Rattle.rdl_layers.specs.NodeNames.{AreNamesOf}
use Rattle.rdl_layers.specs.Ranks.{is_related}

-- a default of the table, as the code has it
abbrev pub set_of_default : Default → Setting
set_of_default table.unset = set.Unset
set_of_default (table.flag b) = set.Flag b
set_of_default (table.number n) = set.Number n
set_of_default (table.named w) = set.Word w
set_of_default (table.hard b) = set.Hard b

abbrev pub default_in : Prop → Setting
default_in p = set_of_default (default_of p)

-- the boolean false
abbrev pub is_false_set : Setting → Bool
is_false_set (set.Flag b) = not b
is_false_set _ = false

-- what the deciding entry makes of a property
abbrev pub settled_by : Prop → PropSetting → Setting
settled_by p e = cond (same_prop p e.prop && not (is_some (group_of p) && is_false_set e.setting)) e.setting set.Unset

-- the same, where one decides
abbrev pub settled_or : Prop → Setting → Option PropSetting → Setting
settled_or p default None = default
settled_or p default (Some e) = settled_by p e

-- what the first entry of a property, or of one that excludes it, makes of it, and this where there is none
abbrev pub decided_in : Prop → Setting → List PropSetting → Setting
decided_in p default es = settled_or p default (find (λ e. is_related p e.prop) es)

-- what the entries make of a property: nothing else sets it, or the table does
abbrev pub setting_in : Prop → List PropSetting → Setting
setting_in prop.Accesswidth es = decided_in prop.Accesswidth (decided_in prop.Regwidth (default_in prop.Regwidth) es) es
setting_in p es = decided_in p (default_in p) es

-- the entries of the node of a number
abbrev pub entries_at : List (Vec PropSetting Global) → ℕ → List PropSetting
entries_at vs k = slice_index_or (map (λ v. v.items) vs) k []

-- What is found for each property of each node says what it is set to.
pub record AreTablesOf (e : Elab) (vs : List (Vec PropSetting Global)) : Type 0 where
  pub all_nodes : length vs ≡ e.count
  pub settings : (k : ℕ) (p : Prop) → k < e.count → SaysAt e k p (setting_in p (entries_at vs k))

-- The settings are those of the tree, and so are the names.
pub record AreTables (a : Inside) : Type 0 where
  pub settings_ : AreTablesOf a.elab a.entries.items
  pub names_ : AreNamesOf a.elab a.names

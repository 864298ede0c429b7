-- What tells of the enumeration by which a field is encoded.
use Rattle.std.specs.Prelude.{◌≡◌, ℕ, Bool, true, false, List, Vec}
use Rattle.std.specs.Global.{Global}
use Rattle.rdl_props.specs.declared.prop.Prop.TheVariants as prop
use Rattle.rdl_values.specs.Values.{EnumOf}
use Rattle.rdl_layers.specs.Tables.{entries_at, setting_in}
use Rattle.rdl_layers.specs.declared.props.PropSetting.{PropSetting}
use Rattle.rdl_layers.specs.declared.setting.Setting.{Setting}
use Rattle.rdl_layers.specs.declared.setting.Setting.TheVariants as set
use Rattle.rdl_open_bodies.specs.declared.spots.OpenTree.{OpenTree}
use Rattle.rdl_encodings.specs.Enums.{AreEnumsOfBodies, enum_found}
use Rattle.rdl_encodings.specs.declared.enums.Enums.{Enums}
use Rattle.rdl_encodings.specs.declared.meant.Meant.{Meant}

abbrev pub enum_meant : Enums → Meant → EnumOf
enum_meant t m = enum_found t m.name.now (m.body, m.number)

abbrev pub names_enum : Setting → Bool
names_enum (set.EnumOf n k) = true
names_enum _ = false

-- Where the entries of some node set `encode` to a name, the enumerations are those of the open bodies.
abbrev pub Serves : Enums → OpenTree → List (Vec PropSetting Global) → Type 0
Serves t tree es = (k : ℕ) → names_enum (setting_in prop.Encode (entries_at es k)) ≡ true → AreEnumsOfBodies t tree.bodies

-- Where an assignment stands, which decides what is legal there.
use Rattle.std.specs.Prelude.{Bool, true}
use Rattle.rdl_props.specs.Table.{is_legal}
use Rattle.rdl_props.specs.declared.prop.Prop.{Prop}
use Rattle.rdl_layers.specs.Judged.{legal_on_entry}
use Rattle.rdl_assignments.specs.declared.allowed.Allowed.{Allowed}
use Rattle.rdl_assignments.specs.declared.allowed.Allowed.TheVariants as allowed

-- on a node of this kind, on any, or on an entry of an enumeration
abbrev pub is_allowed : Allowed → Prop → Bool
is_allowed (allowed.On k) p = is_legal p k
is_allowed allowed.Anywhere p = true
is_allowed allowed.OnEntry p = legal_on_entry p

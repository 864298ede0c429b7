-- The properties that are assigned already.
use Rattle.std.specs.Prelude.{◌≡◌, Bool, List}
use Rattle.std.specs.List.{list_any}
use Rattle.rdl_props.specs.declared.prop.Prop.{Prop}
use Rattle.rdl_assignments.specs.declared.taken.AssignedProps.{AssignedProps}

-- A test passes at one of them exactly where it passes at one of these.
pub record AreTaken (t : AssignedProps) (earlier : List Prop) : Type 0 where
  pub same : (f : Prop → Bool) → list_any f t.props.items ≡ list_any f earlier

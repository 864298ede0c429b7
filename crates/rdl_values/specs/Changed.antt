-- Values that differ from those of the text.
use Rattle.std.specs.Prelude.{Bool, false, not, Option, None, Some, unwrap_or}
use Rattle.rdl_values.specs.Operators.{same}
use Rattle.rdl_values.specs.Values.{Val}

-- whether a parameter that has a value by the text has another one
abbrev pub is_changed : Option Val → Val → Bool
is_changed None w = false
is_changed (Some v) w = not (unwrap_or (same v w) false)

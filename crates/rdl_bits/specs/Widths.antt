-- The width that a field's text and settings give.
use Rattle.std.specs.Prelude.{ℕ, ◌+◌, ◌-◌, Option, None, Some}

-- a bracket's, else a range's, else that of a property
abbrev pub width_by : Option ℕ → Option (ℕ × ℕ) → ℕ → ℕ
width_by (Some w) range set = w
width_by None (Some r) set = r.0 + 1 - r.1
width_by None None set = set

-- What was judged of paths and properties.
use Rattle.std.specs.Prelude.{ℕ, ◌==◌, Bool, true, false, not, Option, None, Some}
use Rattle.rdl_dynamic.specs.declared.marks.Marks.{Marks}
use Rattle.rdl_dynamic.specs.declared.seen.Seen.{Seen}

-- the properties that are legal at paths, or those that aren't
abbrev pub marks_of : Bool → Seen → Marks
marks_of true s = s.legal
marks_of false s = s.illegal

abbrev pub same_bool : Bool → Bool → Bool
same_bool true b = b
same_bool false b = not b

abbrev pub is_number : Option ℕ → ℕ → Bool
is_number None u = false
is_number (Some n) u = n == u

-- The bodies that tables and environments of the code show.
use Rattle.std.specs.Prelude.{List, [], ◌++◌, map, Option, None, Some}
use Rattle.std.specs.Borrow.{Bor}
use Rattle.rdl_tree.specs.declared.value.Env.{Env}
use Rattle.rdl_values.specs.declared.visible.Visible.{Visible}
use Rattle.rdl_values.specs.Seen.{around_of}
use Rattle.rdl_values.specs.Values.{Names, Around}

-- the bodies of some tables, the nearest first
abbrev pub tabled : List (Bor Names) → Around
tabled ts = map (λ t. t.now) ts

-- the bodies that are listed
abbrev pub listed_in : Option (Bor Env) → Around
listed_in None = []
listed_in (Some env) = around_of env.now

-- the bodies that are seen: those of the tables, and those round them
abbrev pub around_in : Visible → Around
around_in v = tabled v.tables.now ++ listed_in v.listed

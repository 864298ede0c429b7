-- The bodies that a chain of numbers shows.
use Rattle.std.specs.Prelude.{ℕ, List, ◌∷◌, flat_map, Option, None, Some, option_to_list, slice_get}
use Rattle.std.specs.Borrow.{Bor}
use Rattle.rdl_values.specs.declared.chain.Chain.{Chain}
use Rattle.rdl_values.specs.Values.{Names, Around}

-- the body of a number, if there is one
abbrev pub body_at : List Names → ℕ → Around
body_at tables k = option_to_list (slice_get tables k)

-- the bodies of some numbers, the nearest first
abbrev pub chained : List Names → List ℕ → Around
chained tables ks = flat_map (body_at tables) ks

-- a body before the others
abbrev pub before : Option (Bor Names) → Around → Around
before None around = around
before (Some t) around = t.now ∷ around

abbrev pub chained_in : Chain → Around
chained_in c = before c.nearest (chained c.tables.now c.numbers.now)

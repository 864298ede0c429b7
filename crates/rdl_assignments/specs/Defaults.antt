-- Defaults by the place from which they are seen.
use Rattle.std.specs.Prelude.{ℕ, ◌≤◌, List, filter, length, nat_lt, take}
use Rattle.rdl_values.specs.Bodies.{Body, Layer}
use Rattle.rdl_layers.specs.Assignments.{defaults_before}
use Rattle.rdl_layers.specs.Judged.{anywhere, failures_of, sound}
use Rattle.rdl_assignments.specs.Layers.{AreGiven}
use Rattle.rdl_assignments.specs.declared.set.ValidAssignment.{ValidAssignment}
use Rattle.rdl_assignments.specs.declared.defaults.Defaults.{Defaults}

-- how many of these positions lie before one
abbrev pub count_before : List ℕ → ℕ → ℕ
count_before positions p = length (filter (λ k. nat_lt k p) positions)

-- those before the item of a position
abbrev pub before_in : Defaults → ℕ → List ValidAssignment
before_in d p = take (count_before d.positions.items p) d.given.items

-- a body as it is seen from behind all of its items
abbrev pub whole : Body → Layer
whole b = record { node = b.node; before = b.items; names = b.names }

-- a body as it is seen from behind so many of its items
abbrev pub seen_behind : Body → ℕ → Layer
seen_behind b p = record { node = b.node; before = take p b.items; names = b.names }

-- Those before each position are the defaults that a definition's text at that place sees.
pub record AreDefaults (d : Defaults) (body : ℕ) (b : Body) : Type 0 where
  pub seen : (p : ℕ) → p ≤ length b.items → AreGiven body (before_in d p) (sound (failures_of anywhere) (defaults_before (seen_behind b p) b.outer))

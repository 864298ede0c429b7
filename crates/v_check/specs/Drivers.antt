-- What drives each net of a module that was parsed.
use Rattle.std.specs.Prelude.{◌≡◌, ℕ, ◌<◌, true, false, Bool, not, ◌&&◌, ◌||◌, Option, None, Some, is_some, List, take, slice_get, slice_index_or}
use Rattle.std.specs.List.{list_all, list_any}
use Rattle.v_design.specs.Lexemes.{among}
use Rattle.v_design.specs.Tree.{Statement}
use Rattle.v_design.specs.WellFormed.{Net, Given, all_among, drives_well, names, same_kind, used}
use Rattle.v_design.specs.declared.design.Stmt.{Stmt}
use Rattle.v_syntax.specs.Faulty.{all_driven, driven_by}
use Rattle.v_syntax.specs.declared.parsed.Event.{Event}
use Rattle.v_syntax.specs.declared.parsed.Event.TheVariants as event
use Rattle.v_check.specs.Nets.{number_of}
use Rattle.v_check.specs.declared.drivers.Drivers.{Drivers}
use Rattle.v_check.specs.declared.nets.Net.{Net as NetOf}

-- the number of a statement that drives the net of a number
abbrev pub driver_of : Drivers → ℕ → Option ℕ
driver_of drivers i = slice_index_or drivers.numbers.items i None

-- the number of a statement that drives the net of a name
abbrev pub driver_at : List NetOf → Drivers → List ℕ → Option ℕ
driver_at nets drivers n = driver_of drivers (number_of nets n)

-- the net that the last branch of a statement of the program drives
abbrev pub again_of : Stmt → Event → List ℕ
again_of s event.None = s.to
again_of s (event.Clock c) = s.to
again_of s (event.Reset c n t a) = a.now

-- each name in a statement is that of a net
abbrev pub are_declared : List Net → List Statement → Bool
are_declared ns ss = list_all (λ s. all_among (names ns) (used s)) ss

-- each net that a statement drives has such a statement's number, and no other net has one
pub record AreDrivers (driver : List ℕ → Option ℕ) (ss : List Statement) : Type 0 where
  pub driven : (n : List ℕ) → is_some (driver n) ≡ among (all_driven ss) n
  pub at : (n : List ℕ) (i : ℕ) → driver n ≡ Some i → (s : Statement) × (slice_get ss i ≡ Some s) × (among (driven_by s) n ≡ true)

-- the statement of this number drives what it may not, reads the clock, or drives a net that has a driver before
abbrev pub IsMisdriven : List Net → List Statement → ℕ → Type 0
IsMisdriven ns ss i = (s : Statement) × (slice_get ss i ≡ Some s) × ((drives_well ns s && not (list_any (among (all_driven (take i ss))) (driven_by s))) ≡ false)

-- the net of this number is no input and has no driver
abbrev pub IsUndriven : List Net → (driver : List ℕ → Option ℕ) → ℕ → Type 0
IsUndriven ns driver i = (n : Net) × (slice_get ns i ≡ Some n) × ((same_kind n.kind Given || is_some (driver n.name)) ≡ false)

-- the numbers of drivers are below this
abbrev pub AreNumbers : (driver : List ℕ → Option ℕ) → ℕ → Type 0
AreNumbers driver count = (n : List ℕ) (i : ℕ) → driver n ≡ Some i → i < count

-- no statement drives a net that has a driver before
abbrev pub IsSingle : List Statement → Type 0
IsSingle ss = (i : ℕ) (s : Statement) → slice_get ss i ≡ Some s → list_any (among (all_driven (take i ss))) (driven_by s) ≡ false

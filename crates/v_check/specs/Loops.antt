-- The assignments of a module that was parsed, and what they read.
use Rattle.std.specs.Prelude.{◌≡◌, ℕ, ◌<◌, if◌then◌else◌, Option, Some, None, List, [], ◌∷◌, length, map, slice_get}
use Rattle.topological_order.specs.Levels.{rank_at}
use Rattle.v_design.specs.Expr.{nets_of}
use Rattle.v_design.specs.Seen.{expr_seen}
use Rattle.v_design.specs.Tree.{Statement, Term, Assign}
use Rattle.v_design.specs.declared.design.Stmt.{Stmt}
use Rattle.v_syntax.specs.Faulty.{GoesOn}

-- the numbers of the things that have one
abbrev pub with_number : Option ℕ → List ℕ → List ℕ
with_number None is = is
with_number (Some i) is = i ∷ is

abbrev pub numbers_of : {A : Type 0} → (A → Option ℕ) → List A → List ℕ
numbers_of number [] = []
numbers_of number (n ∷ ns) = with_number (number n) (numbers_of number ns)

-- the numbers of the statements that drive the nets that an assignment reads
abbrev pub stmt_needs : (List ℕ → Option ℕ) → Stmt → List ℕ
stmt_needs number s = if s.clocked then [] else numbers_of number (nets_of (expr_seen s.expr))

abbrev pub all_needs : (List ℕ → Option ℕ) → List Stmt → List (List ℕ)
all_needs number ss = map (stmt_needs number) ss

-- the thing of this number has no rank
abbrev pub IsUnranked : List (Option ℕ) → ℕ → Type 0
IsUnranked ranks i = (i < length ranks) × (rank_at ranks i ≡ None)

-- from the net of the assignment of this number one can go on for ever
abbrev pub IsLooping : List Statement → ℕ → Type 0
IsLooping ss i = (to : List ℕ) × (e : Term) × (slice_get ss i ≡ Some (Assign to e)) × GoesOn ss to

-- In which order the nets of a module settle.
use Rattle.std.specs.Prelude.{◌≡◌, ℕ, ◌<◌, false, IsTrue, if◌then◌else◌, Option, Some, None, IsSome, List, [], ◌∷◌, length, map, slice_get}
use Rattle.std.specs.List.{AllByRecursion}
use Rattle.std.specs.BTreeMap.{BTreeMap, get_by}
use Rattle.std.specs.Cmp.Lexicographic.{slice_cmp}
use Rattle.std.specs.Ordering.{nat_cmp}
use denote.Ref.{Bor}
use Rattle.v_design.specs.Lexemes.{among}
use Rattle.v_design.specs.Expr.{nets_of}
use Rattle.v_design.specs.Design.{Step}
use Rattle.v_design.specs.WellFormed.{AllBelow}

-- the numbers of the assignments that drive nets, by name
abbrev pub Drivers : Type 0
Drivers = BTreeMap (Bor (List ℕ)) ℕ

abbrev pub driver_at : Drivers → List ℕ → Option ℕ
driver_at drivers n = get_by (λ k. slice_cmp nat_cmp n k.now) drivers

-- the step of this number is an assignment to the net
pub record Assigns (ss : List Step) (i : ℕ) (net : List ℕ) : Type 0 where
  pub step : Step
  pub at : slice_get ss i ≡ Some step
  pub acts : step.clocked ≡ false
  pub to : step.to ≡ net

-- each net that an assignment drives has such an assignment's number, and no other net has one
pub record AreDrivers (drivers : Drivers) (ss : List Step) : Type 0 where
  pub driven : (i : ℕ) (s : Step) → slice_get ss i ≡ Some s → s.clocked ≡ false → IsSome (driver_at drivers s.to)
  pub assigned : (n : List ℕ) (i : ℕ) → driver_at drivers n ≡ Some i → Assigns ss i n

-- the numbers of the names that have one
abbrev pub with_number : Option ℕ → List ℕ → List ℕ
with_number None is = is
with_number (Some i) is = i ∷ is

abbrev pub numbers_of : (List ℕ → Option ℕ) → List (List ℕ) → List ℕ
numbers_of number [] = []
numbers_of number (n ∷ ns) = with_number (number n) (numbers_of number ns)

-- the numbers of the assignments to the nets that an assignment reads
abbrev pub step_needs : (List ℕ → Option ℕ) → Step → List ℕ
step_needs number s = if s.clocked then [] else numbers_of number (nets_of s.expr)

abbrev pub all_needs : (List ℕ → Option ℕ) → List Step → List (List ℕ)
all_needs number ss = map (step_needs number) ss

-- some rank of nets rises along each assignment, so none leads back to its net
pub record IsAcyclic (ss : List Step) : Type 0 where
  pub rank : List ℕ → ℕ
  pub rises : AllByRecursion (λ s. s.clocked ≡ false → AllBelow rank (nets_of s.expr) (rank s.to)) ss

-- Each step stands in the order, and before each assignment an assignment to each net that it reads, if there is one.
pub record IsSettlingOrder (ss : List Step) (order : List ℕ) : Type 0 where
  pub within : (p i : ℕ) → slice_get order p ≡ Some i → i < length ss
  pub each : (i : ℕ) → i < length ss → (p : ℕ) × (slice_get order p ≡ Some i)
  pub behind : (p i k : ℕ) (s : Step) (n : List ℕ) → slice_get order p ≡ Some i → slice_get ss i ≡ Some s → s.clocked ≡ false → IsTrue (among (nets_of s.expr) n)
      → Assigns ss k n → (q : ℕ) × (j : ℕ) × (q < p) × (slice_get order q ≡ Some j) × Assigns ss j n

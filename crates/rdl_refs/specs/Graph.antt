-- What refers to what, by numbers: thing k refers to the things that edge list k names.
use Rattle.std.specs.Prelude.{◌≡◌, ℕ, zero, suc, List, [], ◌∷◌, length, Some, Contains, All, AllPairs, IsPermutation, slice_get}
use Rattle.rdl_values.specs.Instances.{upto}

abbrev pub Edges : Type 0
Edges = List (List ℕ)

-- One thing refers to another.
abbrev pub Refers : Edges → ℕ → ℕ → Type 0
Refers edges a b = (bs : List ℕ) × (slice_get edges a ≡ Some bs) × Contains bs b

-- References can be followed for so many steps.
abbrev pub GoesOn : Edges → ℕ → ℕ → Type 0
GoesOn edges zero a = Unit {0}
GoesOn edges (suc k) a = (b : ℕ) × Refers edges a b × GoesOn edges k b

abbrev pub ForEver : Edges → ℕ → Type 0
ForEver edges a = (k : ℕ) → GoesOn edges k a

-- The numbers of all things, each once, each after those that it refers to.
pub record IsOrder (edges : Edges) (order : List ℕ) : Type 0 where
  pub each_once : IsPermutation order (upto (length edges))
  pub after_its_own : AllPairs (λ a b. ¬ (Refers edges a b)) order
  pub not_to_itself : All (λ a. ¬ (Refers edges a a)) order

-- each refers to the next, and the last to the first
abbrev pub GoesRound : Edges → ℕ → List ℕ → Type 0
GoesRound edges first [] = Unit {0}
GoesRound edges first (a ∷ []) = Refers edges a first
GoesRound edges first (a ∷ b ∷ more) = Refers edges a b × GoesRound edges first (b ∷ more)

-- Different things that refer to one another in a circle.
pub record IsCircle (edges : Edges) (first : ℕ) (others : List ℕ) : Type 0 where
  pub differ : AllPairs (λ a b. ¬ (a ≡ b)) (first ∷ others)
  pub round : GoesRound edges first (first ∷ others)

-- a list of numbers is such a circle
abbrev pub IsCircleOf : Edges → List ℕ → Type 0
IsCircleOf edges [] = ⊥
IsCircleOf edges (a ∷ others) = IsCircle edges a others

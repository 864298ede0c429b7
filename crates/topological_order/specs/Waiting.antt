-- Things that wait for others, in rings.
use Rattle.std.specs.Prelude.{◌≡◌, ℕ, suc, ◌<◌, ◌==◌, if◌then◌else◌, Some, List, [], ◌∷◌, ◌++◌, length, drop, slice_get, slice_index_or}
use Rattle.topological_order.specs.declared.waiting.Waiting.{Waiting}

-- how many wait for a thing, the last of them, and what is behind one of them
abbrev pub count_of : Waiting → ℕ → ℕ
count_of w j = slice_index_or w.counts.items j 0

abbrev pub last_of : Waiting → ℕ → ℕ
last_of w j = slice_index_or w.lasts.items j 0

abbrev pub behind : Waiting → ℕ → ℕ
behind w i = slice_index_or w.nexts.items i 0

-- one thing stands at a place among those that wait for another
abbrev pub StandsAt : (ℕ → List ℕ) → (of place thing : ℕ) → Type 0
StandsAt queue of place thing = slice_get (queue of) place ≡ Some thing

-- the rings of these queues: each thing leads to the one behind it and the last one to the first, and none stands in two places
pub record AreRings (w : Waiting) (queue : ℕ → List ℕ) : Type 0 where
  pub counts : length w.counts.items ≡ length w.nexts.items
  pub lasts : length w.lasts.items ≡ length w.nexts.items
  pub sized : (j : ℕ) → length (queue j) ≡ count_of w j
  pub first : (j x : ℕ) → StandsAt queue j 0 x → behind w (last_of w j) ≡ x
  pub linked : (j k x y : ℕ) → StandsAt queue j k x → StandsAt queue j (suc k) y → behind w x ≡ y
  pub last : (j k x : ℕ) → StandsAt queue j k x → suc k ≡ length (queue j) → last_of w j ≡ x
  pub within : (j k x : ℕ) → StandsAt queue j k x → x < length w.nexts.items
  pub once : (j k i m x : ℕ) → StandsAt queue j k x → StandsAt queue i m x → (j ≡ i) × (k ≡ m)

-- the thing waits for none
abbrev pub IsFree : (ℕ → List ℕ) → ℕ → Type 0
IsFree queue i = (j k : ℕ) → StandsAt queue j k i → ⊥

-- the queues with one more thing at the end of one, and without the first of one
abbrev pub pushed : (ℕ → List ℕ) → (to thing : ℕ) → ℕ → List ℕ
pushed queue to thing j = if j == to then queue to ++ thing ∷ [] else queue j

abbrev pub popped : (ℕ → List ℕ) → (of : ℕ) → ℕ → List ℕ
popped queue of j = if j == of then drop 1 (queue of) else queue j

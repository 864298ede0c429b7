-- Things that are ranked one after the other.
use Rattle.std.specs.Prelude.{◌≡◌, ℕ, ◌<◌, ◌≤◌, ◌⊎◌, is_some, Option, Some, None, List, length, count_by, slice_get, slice_index_or}
use Rattle.topological_order.specs.Levels.{need_at, rank_at}
use Rattle.topological_order.specs.Waiting.{AreRings, IsFree, StandsAt}
use Rattle.topological_order.specs.declared.ranking.Ranking.{Ranking}

-- the thing has a rank
abbrev pub IsRanked : List (Option ℕ) → ℕ → Type 0
IsRanked ranks i = (r : ℕ) × (rank_at ranks i ≡ Some r)

-- the first need without a rank, from a place on, is at another
pub record StopsAt (ranks : List (Option ℕ)) (needs : List ℕ) (from place : ℕ) : Type 0 where
  pub need : ℕ
  pub at : slice_get needs place ≡ Some need
  pub unranked : rank_at ranks need ≡ None
  pub before : (i j : ℕ) → from ≤ i → i < place → slice_get needs i ≡ Some j → IsRanked ranks j

-- the place of the need that a thing waits for
abbrev pub place_of : Ranking → ℕ → ℕ
place_of s i = slice_index_or s.places.items i 0

-- the ranks are places in the order, and earlier needs than the one that a thing waits for have ranks
pub record AreInOrder (needs : List (List ℕ)) (s : Ranking) : Type 0 where
  pub sized : length s.ranks.items ≡ length needs
  pub placed : length s.places.items ≡ length needs
  pub waited : length s.waiting.nexts.items ≡ length needs
  pub counted : count_by is_some s.ranks.items ≡ length s.order.items
  pub ordered : (i r : ℕ) → rank_at s.ranks.items i ≡ Some r → slice_get s.order.items r ≡ Some i
  pub ranked : (r i : ℕ) → slice_get s.order.items r ≡ Some i → (i < length needs) × (rank_at s.ranks.items i ≡ Some r)
  pub rises : (i r k j : ℕ) → rank_at s.ranks.items i ≡ Some r → need_at needs i k ≡ Some j → (q : ℕ) × (rank_at s.ranks.items j ≡ Some q) × (q < r)
  pub earlier : (i k h : ℕ) → k < place_of s i → need_at needs i k ≡ Some h → IsRanked s.ranks.items h

-- the thing waits for none and has no rank
abbrev pub IsIdle : Ranking → (ℕ → List ℕ) → ℕ → Type 0
IsIdle s queue i = (rank_at s.ranks.items i ≡ None) × IsFree queue i

-- the thing waits for one that is not among the first of the order
abbrev pub Waits : Ranking → (ℕ → List ℕ) → (done : ℕ) → ℕ → Type 0
Waits s queue done i = (j : ℕ) × (k : ℕ) × StandsAt queue j k i × ((r : ℕ) → rank_at s.ranks.items j ≡ Some r → done ≤ r)

-- Things from a number on are yet to begin, and one that is held goes on next. Each other thing without a rank waits for one of its needs,
-- which isn't among the first of the order.
pub record IsSound (needs : List (List ℕ)) (from done : ℕ) (held : Option ℕ) (s : Ranking) : Type 0 where
  pub in_order : AreInOrder needs s
  pub queue : ℕ → List ℕ
  pub rings : AreRings s.waiting queue
  pub waits : (j k i : ℕ) → StandsAt queue j k i → (rank_at s.ranks.items i ≡ None) × (need_at needs i (place_of s i) ≡ Some j)
  pub later : (i : ℕ) → from ≤ i → IsIdle s queue i
  pub free : (i : ℕ) → held ≡ Some i → (i < from) × IsIdle s queue i
  pub each : (i : ℕ) → i < length needs → rank_at s.ranks.items i ≡ None → (from ≤ i) ⊎ (held ≡ Some i) ⊎ Waits s queue done i

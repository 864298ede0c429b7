-- Numbered things, each of which needs others: their ranks, and their order.
use Rattle.std.specs.Prelude.{◌≡◌, ℕ, ◌<◌, Option, Some, None, List, [], length, slice_get, slice_index_or}

-- the need of a thing at a place
abbrev pub need_at : List (List ℕ) → ℕ → ℕ → Option ℕ
need_at needs i k = slice_get (slice_index_or needs i []) k

-- each need is a thing
abbrev pub AreWithin : List (List ℕ) → Type 0
AreWithin needs = (i k j : ℕ) → need_at needs i k ≡ Some j → j < length needs

-- the rank of a thing
abbrev pub rank_at : List (Option ℕ) → ℕ → Option ℕ
rank_at ranks i = slice_index_or ranks i None

-- Each thing that has a rank needs things of lower ranks, and each other needs one without a rank. The order has each
-- thing with a rank at its rank, and no other.
pub record AreLevels (needs : List (List ℕ)) (ranks : List (Option ℕ)) (order : List ℕ) : Type 0 where
  pub sized : length ranks ≡ length needs
  pub rises : (i r k j : ℕ) → rank_at ranks i ≡ Some r → need_at needs i k ≡ Some j → (q : ℕ) × (rank_at ranks j ≡ Some q) × (q < r)
  pub stays : (i : ℕ) → i < length needs → rank_at ranks i ≡ None → (k : ℕ) × (j : ℕ) × (need_at needs i k ≡ Some j) × (rank_at ranks j ≡ None)
  pub ordered : (i r : ℕ) → rank_at ranks i ≡ Some r → slice_get order r ≡ Some i
  pub ranked : (i r : ℕ) → slice_get order r ≡ Some i → rank_at ranks i ≡ Some r

-- Following references from a thing without a rank.
use Rattle.std.specs.Prelude.{◌≡◌, ℕ, suc, ◌<◌, Option, None, Some, is_some, List, length, count_by, slice_get, Contains, ◌↔◌}
use Rattle.rdl_base.specs.declared.fault.Fault.{Fault}
use Rattle.rb_base.specs.declared.place.Place.{Place}
use Rattle.rdl_base.specs.declared.rule.Rule.TheVariants as rules
use Rattle.topological_order.specs.Levels.{rank_at}
use Rattle.rdl_refs.specs.Graph.{Edges, Refers}

-- the thing has no rank
abbrev pub IsUnranked : List (Option ℕ) → ℕ → Type 0
IsUnranked ranks i = (i < length ranks) × (rank_at ranks i ≡ None)

-- the thing is among these, and has no rank
abbrev pub IsUnrankedNeed : List (Option ℕ) → List ℕ → ℕ → Type 0
IsUnrankedNeed ranks needs j = (k : ℕ) × (slice_get needs k ≡ Some j) × (rank_at ranks j ≡ None)

-- The path has different things, each marked by its place there; each refers to the next, and the last to the thing behind it,
-- which has no rank.
pub record IsWalk (edges : Edges) (ranks marks : List (Option ℕ)) (path : List ℕ) (thing : ℕ) : Type 0 where
  pub unranked : IsUnranked ranks thing
  pub sized : length marks ≡ length edges
  pub counted : count_by is_some marks ≡ length path
  pub marked : (i p : ℕ) → rank_at marks i ≡ Some p → slice_get path p ≡ Some i
  pub marks_it : (p i : ℕ) → slice_get path p ≡ Some i → rank_at marks i ≡ Some p
  pub steps : (p a b : ℕ) → slice_get path p ≡ Some a → slice_get path (suc p) ≡ Some b → Refers edges a b
  pub last : (p a : ℕ) → slice_get path p ≡ Some a → suc p ≡ length path → Refers edges a thing

-- The failures are those of R7 at the places of the things without a rank below a number.
abbrev pub AreUnordered : List (Option ℕ) → List Place → ℕ → List Fault → Type 0
AreUnordered ranks places count fs = (f : Fault) → Contains fs f ↔ ((k : ℕ) × (k < count) × (rank_at ranks k ≡ None) × (slice_get places k ≡ Some f.place) × (f.rule ≡ rules.R7))

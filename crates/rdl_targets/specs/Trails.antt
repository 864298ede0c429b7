-- The paths that were walked from the body of one node.
use Rattle.std.specs.Prelude.{◌≡◌, ℕ, Bool, true, false, List, [], ◌∷◌, Option, None, Some, filter, flat_map, option_map, slice_get}
use Rattle.std.specs.BTreeSet.{contains}
use Rattle.std.specs.Ordering.{nat_cmp}
use Rattle.rdl_tree.specs.declared.node.Elab.{Elab}
use Rattle.rdl_values.specs.Instances.{Instance, children}
use Rattle.rdl_values.specs.Lineages.{lineages_of}
use Rattle.rdl_values.specs.Parts.{is_empty}
use Rattle.rdl_targets.specs.At.{AreAt}
use Rattle.rdl_targets.specs.Contents.{passes}
use Rattle.rdl_targets.specs.Noted.{under_wanted}
use Rattle.rdl_targets.specs.declared.matching.Wanted.{Wanted}
use Rattle.rdl_targets.specs.declared.trails.Trails.{Trails}

-- the nodes that the path of a number leads to
abbrev pub set_at : Trails → ℕ → Option (List ℕ)
set_at t u = option_map (λ v. v.items) (slice_get t.sets.items u)

abbrev pub listed : Option (List ℕ) → List ℕ
listed None = []
listed (Some ks) = ks

-- the nodes that a path leads to, if it has a number
abbrev pub nodes_of : Trails → Option ℕ → List ℕ
nodes_of t None = []
nodes_of t (Some u) = listed (set_at t u)

-- The path of one number leads to some nodes, and from the bodies of those a step that takes what passes a test to those of the other.
pub record IsTurn (e : Elab) (t : Trails) (from : ℕ) (test : Instance → Bool) (to : ℕ) : Type 0 where
  pub before : List ℕ
  pub after : List ℕ
  pub was : set_at t from ≡ Some before
  pub is : set_at t to ≡ Some after
  pub some : is_empty after ≡ false
  pub leads : (ms : List Instance) → AreAt (lineages_of e) before ms → AreAt (lineages_of e) after (filter test (flat_map children ms))

-- What has no node under the number of a path leads nowhere from there.
pub record IsSpread (e : Elab) (t : Trails) (from : ℕ) : Type 0 where
  pub before : List ℕ
  pub was : set_at t from ≡ Some before
  pub tells : (name : List ℕ) (w : Wanted) (ms : List Instance) → slice_get (under_wanted t.inside from name w) 0 ≡ None → AreAt (lineages_of e) before ms → [] ≡ filter (passes w name) (flat_map children ms)

-- These are paths from the body of the node of this number.
pub record AreTrails (e : Elab) (node : ℕ) (t : Trails) : Type 0 where
  pub root : set_at t 0 ≡ Some (node ∷ [])
  pub turns : (k : ℕ) (name : List ℕ) (w : Wanted) (u : ℕ) → slice_get (under_wanted t.steps k name w) 0 ≡ Some u → IsTurn e t k (passes w name) u
  pub spread_ : (u : ℕ) → contains nat_cmp t.spread u ≡ true → IsSpread e t u

-- a path that had a number still has it
abbrev pub Keeps : Trails → Trails → Type 0
Keeps old new = (u : ℕ) (ks : List ℕ) → set_at old u ≡ Some ks → set_at new u ≡ Some ks

-- The path of this number leads to these, of which there is one at least; where there is no number, to none.
abbrev pub LeadsTo : Elab → Trails → Option ℕ → List Instance → Type 0
LeadsTo e t None ns = [] ≡ ns
LeadsTo e t (Some u) ns = (ks : List ℕ) × (set_at t u ≡ Some ks) × (is_empty ks ≡ false) × AreAt (lineages_of e) ks ns

-- The paths were walked on, and a path leads to these.
pub record Finds (e : Elab) (node : ℕ) (old new : Trails) (r : Option ℕ) (ns : List Instance) : Type 0 where
  pub are : AreTrails e node new
  pub keeps : Keeps old new
  pub leads : LeadsTo e new r ns

-- Where a path of this number leads to some nodes, their names and indices are listed, and nothing else changed.
pub record Spreads (e : Elab) (node u : ℕ) (old new : Trails) : Type 0 where
  pub are : AreTrails e node new
  pub same_sets : new.sets ≡ old.sets
  pub listed_ : (ks : List ℕ) → set_at old u ≡ Some ks → contains nat_cmp new.spread u ≡ true

-- It was found whether a step may lead on from the path of a number.
pub record MayLead (e : Elab) (node u : ℕ) (name : List ℕ) (w : Wanted) (may : Bool) (old new : Trails) : Type 0 where
  pub are : AreTrails e node new
  pub same_sets : new.sets ≡ old.sets
  pub nowhere : may ≡ false → (ks : List ℕ) (ms : List Instance) → set_at old u ≡ Some ks → AreAt (lineages_of e) ks ms → [] ≡ filter (passes w name) (flat_map children ms)

-- A path to these nodes was put in under a number.
pub record Pushes (e : Elab) (node u : ℕ) (ks : List ℕ) (old new : Trails) : Type 0 where
  pub are : AreTrails e node new
  pub keeps : Keeps old new
  pub is : set_at new u ≡ Some ks

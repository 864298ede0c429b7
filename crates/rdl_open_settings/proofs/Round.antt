-- Defaults, body by body.
use Rattle.std.proofs.Common.{◌≡◌, ◌≢◌, ◌∙◌, ℕ, zero, suc, ◌+◌, ◌-◌, List, [], ◌∷◌, ◌++◌, filter, flat_map, length, Option, None, Some, slice_get, refl, sym, ap, subst, arith, append_assoc, append-nil}
use Rattle.std.specs.List.{AllByRecursion}
use Rattle.rdl_props.specs.Table.{is_legal}
use Rattle.rdl_tree.specs.declared.item.Kind.{Kind}
use Rattle.rdl_tree.specs.declared.node.Elab.{Elab}
use Rattle.rdl_values.specs.Bodies as values
use Rattle.rdl_values.specs.Bodies.{Scope, scope_at}
use Rattle.rdl_values.specs.Elaborated.{nodes_of}
use Rattle.rdl_values.specs.Instances.{Instance, body, kind_of}
use Rattle.rdl_values.specs.Top.{root}
use Rattle.rdl_layers.specs.Assignments.{defaults_before}
use Rattle.rdl_layers.specs.Judged.{anywhere, failures_of, sound}
use Rattle.rdl_layers.specs.Meanings.{Assignment}
use Rattle.rdl_layers.specs.Settings.{Applied, from_defaults, gives}
use Rattle.rdl_layers.specs.declared.rank.Rank.{Rank}
use Rattle.rdl_layers.specs.declared.rank.Rank.TheVariants as rank
use Rattle.rdl_layers.specs.declared.props.PropSetting.{PropSetting}
use Rattle.rdl_assignments.specs.Defaults.{before_in, seen_behind}
use Rattle.rdl_assignments.specs.Layers.{AreGiven}
use Rattle.rdl_assignments.specs.declared.set.ValidAssignment.{ValidAssignment}
use Rattle.rdl_merge.specs.Merged.{AreEntries, AreIn}
use Rattle.rdl_bodies.specs.declared.bodies.Bodies.{Bodies}
use Rattle.rdl_open_bodies.specs.Spots.{AreSpots, IsBodyAt, IsOpenAt, IsRound, IsSpot}
use Rattle.rdl_open_bodies.specs.declared.spots.OpenTree.{OpenTree}
use Rattle.rdl_open_bodies.specs.declared.spots.Spot.{Spot}
use Rattle.rdl_open_settings.specs.Layered.{HasLayers, layers_at}
use Rattle.rdl_open_settings.specs.declared.layers.Layers.{Layers}
use Rattle.rdl_open_settings.specs.declared.table.LayerTable.{LayerTable}
use Rattle.rdl_open_settings.specs.Completed.{IsKnownAt, IsScene, number_or}
use Rattle.rdl_open_settings.proofs.Numbered.{body_number, defaults_in}

-- The node of a number, among the open bodies.
pub record IsSpotAt (e : Elab) (t : Bodies) (x : LayerTable) (os : List Spot) (k : ℕ) (n : Instance) : Type 0 where
  pub o : Spot
  pub here : slice_get os k ≡ Some o
  pub is : IsSpot e t o n
  pub layers : HasLayers x o.body

pub spot_found : (e : Elab) (t : Bodies) (x : LayerTable) (os : List Spot) (ns : List Instance) (k : ℕ) (n : Instance) → AreSpots e t os ns → AllByRecursion (λ o. HasLayers x o.body) os → slice_get ns k ≡ Some n → IsSpotAt e t x os k n
spot_found e t x [] [] k n h g at = cc
spot_found e t x [] (m ∷ ns) k n h g at = absurd h
spot_found e t x (o ∷ os) [] k n h g at = absurd h
spot_found e t x (o ∷ os) (m ∷ ns) zero n h g at = let same : m ≡ n = cc in record { o = o; here = refl; is = subst (IsSpot e t o) same h.0; layers = g.0 }
spot_found e t x (o ∷ os) (m ∷ ns) (suc k) n h g at =
    let rec = spot_found e t x os ns k n h.1 g.1 at in
    record { o = rec.o; here = rec.here; is = rec.is; layers = rec.layers }

pub root_known : (e : Elab) (tree : OpenTree) (x : LayerTable) (count : ℕ) (b : values.Body) → IsScene e tree x count → b ≡ root e.source.now → IsKnownAt tree x (Some 0) b
root_known e tree x count b scene is = record { k = 0; is = refl; open_ = subst (IsOpenAt tree.bodies 0) (sym is) scene.open_.root_; layers = scene.layered.root_ }

module _ (e : Elab) (tree : OpenTree) (x : LayerTable) (count : ℕ) (node : ℕ) (scene : IsScene e tree x count) (n : Instance) (at : slice_get (nodes_of e) node ≡ Some n) where
  there : IsSpotAt e tree.bodies x tree.spots.items node n
  there = spot_found e tree.bodies x tree.spots.items (nodes_of e) node n scene.open_.nodes_ scene.layered.nodes_ at

  pub spot_there : (o : Spot) → slice_get tree.spots.items node ≡ Some o → IsSpot e tree.bodies o n
  spot_there o here = let both : Some there.o ≡ Some o = sym there.here ∙ here in let same : there.o ≡ o = cc in subst (λ p. IsSpot e tree.bodies p n) same there.is

  pub node_known : (o : Spot) → slice_get tree.spots.items node ≡ Some o → (b : values.Body) → b ≡ body n → IsKnownAt tree x (Some o.body) b
  node_known o here b is =
      let both : Some there.o ≡ Some o = sym there.here ∙ here in
      let same : there.o ≡ o = cc in
      record {
        k = o.body;
        is = refl;
        open_ = subst (IsOpenAt tree.bodies o.body) (sym is) (spot_there o here).own;
        layers = subst (λ p. HasLayers x p.body) same there.layers;
      }

  pub none_there : slice_get tree.spots.items node ≡ None → ⊥
  none_there none = let both : Some there.o ≡ None = sym there.here ∙ none in cc

pub found_layers : (tree : OpenTree) (x : LayerTable) (r : Option ℕ) (b : values.Body) (body_ : ℕ) → IsKnownAt tree x r b → r ≡ Some body_ → HasLayers x body_ × IsOpenAt tree.bodies body_ b
found_layers tree x r b body_ h is =
    let both : Some h.k ≡ Some body_ = sym h.is ∙ is in
    let same : h.k ≡ body_ = cc in
    (subst (HasLayers x) same h.layers, subst (λ k. IsOpenAt tree.bodies k b) same h.open_)

pub none_known : (tree : OpenTree) (x : LayerTable) (r : Option ℕ) (b : values.Body) → IsKnownAt tree x r b → r ≡ None → ⊥
none_known tree x r b h is = let both : Some h.k ≡ None = sym h.is ∙ is in cc

pub none_found : (tree : OpenTree) (x : LayerTable) (r : Option ℕ) (b : values.Body) (body_ : ℕ) → IsKnownAt tree x r b → r ≡ Some body_ → layers_at x body_ ≡ None → ⊥
none_found tree x r b body_ h is none = let has = (found_layers tree x r b body_ h is).0 in let both : Some has.0 ≡ None = sym has.1 ∙ none in cc

-- One body.

not-empty : (r : ℕ) → suc r ≡ 0 → ⊥
not-empty r q = omega (arith, q)

pub some_left : (e : Elab) (round : Option ℕ) (upto left : ℕ) (scope : Scope) → IsRound e round upto scope → length scope ≡ left → left ≡ 0 → ⊥
some_left e round upto left scope h size none = let l = ap length h.scope_is in omega (arith, l, size, none)

module _ (e : Elab) (tree : OpenTree) (x : LayerTable) (count : ℕ) (scene : IsScene e tree x count) (n : Instance) (kind : Kind) (kind_is : kind_of n ≡ kind) (distance : ℕ) (scope : Scope) (xs : List Applied) (round : Option ℕ) (upto : ℕ) (h : IsRound e round upto scope) where
  abbrev b : values.Body
  b = h.of

  abbrev pub assigned : List Assignment
  assigned = sound (failures_of anywhere) (defaults_before (seen_behind b upto) b.outer)

  abbrev mine : List Applied
  mine = filter (λ a. is_legal a.candidate.prop (kind_of n)) (flat_map (gives (rank.Default distance)) assigned)

  module _ (k : ℕ) (l : Layers) (open_ : IsOpenAt tree.bodies k b) (found : layers_at x k ≡ Some l) (old new : List PropSetting) (given : List ValidAssignment) (given_is : given ≡ before_in l.defaults upto)
      (adds : (all : List Instance) (ys : List Applied) (judged : ℕ) (as' : List Assignment) (r : Rank) → AreGiven judged given as' → AreIn all (number_or round count) as' → AreEntries all old ys
      → AreEntries all new (ys ++ filter (λ y. is_legal y.candidate.prop kind) (flat_map (gives r) as'))) (before : AreEntries (nodes_of e) old xs) where
    step : AreEntries (nodes_of e) new (xs ++ mine)
    step =
        let are = (scene.layered.all.known k l found b open_).1.defaults_are.seen upto h.within in
        let all = adds (nodes_of e) xs 0 assigned (rank.Default distance) (subst (λ gs. AreGiven 0 gs assigned) (sym given_is) are) (defaults_in (nodes_of e) (number_or round count) (failures_of anywhere) (seen_behind b upto) b.outer (body_number e round count b scene.clean scene.count_is h.body_is)) before in
        subst (λ c. AreEntries (nodes_of e) new (xs ++ filter (λ y. is_legal y.candidate.prop c) (flat_map (gives (rank.Default distance)) assigned))) (sym kind_is) all

    whole : (rest : Scope) → b.outer ≡ rest → from_defaults n distance scope ≡ mine ++ from_defaults n (distance + 1) rest
    whole rest q = ap (from_defaults n distance) h.scope_is ∙ ap (λ o. mine ++ from_defaults n (distance + 1) o) q

    pub last_round : round ≡ None → AreEntries (nodes_of e) new (xs ++ from_defaults n distance scope)
    last_round none =
        let is : b ≡ root e.source.now = subst (λ r. IsBodyAt e r b) none h.body_is in
        let all : from_defaults n distance scope ≡ mine = whole [] (ap (λ c. c.outer) is) ∙ append-nil mine in
        subst (λ ys. AreEntries (nodes_of e) new (xs ++ ys)) (sym all) step

    module _ (node : ℕ) (some : round ≡ Some node) where
      pub here : IsBodyAt e (Some node) b
      here = subst (λ r. IsBodyAt e r b) some h.body_is

      pub none_next : slice_get tree.spots.items node ≡ None → ⊥
      none_next none = none_there e tree x count node scene here.0 here.1 none

      outer-is : b.outer ≡ here.0.closure.scope
      outer-is = ap (λ c. c.outer) here.2

      pub next_round : (left : ℕ) (next : Spot) (end_ : List PropSetting) → length scope ≡ left → left ≢ 0 → slice_get tree.spots.items node ≡ Some next
          → ((distance : ℕ) (scope : Scope) (ys : List Applied) → IsRound e next.round next.upto scope → length scope ≡ left - 1 → AreEntries (nodes_of e) new ys → AreEntries (nodes_of e) end_ (ys ++ from_defaults n distance scope))
          → AreEntries (nodes_of e) end_ (xs ++ from_defaults n distance scope)
      next_round left next end_ size some_ next_is rec =
          let spot = spot_there e tree x count node scene here.0 here.1 next next_is in
          let long = ap length h.scope_is in
          let same = ap length outer-is in
          let all = rec (distance + 1) here.0.closure.scope (xs ++ mine) spot.round_is (omega (arith, long, same, size, some_)) step in
          subst (λ ys. AreEntries (nodes_of e) end_ (xs ++ ys)) (sym (whole here.0.closure.scope outer-is)) (subst (AreEntries (nodes_of e) end_) (append_assoc xs mine (from_defaults n (distance + 1) here.0.closure.scope)) all)

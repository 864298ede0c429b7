-- The nodes in a body, taken up one by one.
use Rattle.std.proofs.Common.{◌≡◌, ◌∙◌, ℕ, zero, suc, ◌<◌, ◌⊎◌, inl, inr, true, List, [], ◌∷◌, length, drop, get_or, reverse, slice_get, Some, refl, sym, ap, subst, arith}
use Rattle.std.specs.List.{All}
use Rattle.rdl_tree.specs.declared.node.Elab.{Elab}
use Rattle.rdl_tree.specs.declared.node.Node.{Node, out-Node}
use Rattle.rdl_values.specs.Bodies.{Step, below_top}
use Rattle.rdl_values.specs.Elaborated.{Says, around_body, top_name}
use Rattle.rdl_values.specs.Instances.{Instance, children, seen_in}
use Rattle.rdl_values.specs.Lineages.{Lineage, child_of, lineages_of}
use Rattle.rdl_values.specs.Values.{Around}
use Rattle.rdl_values.specs.declared.chain.Chain.{Chain}
use Rattle.rdl_failures.specs.Shown.{IsShown}
use Rattle.rdl_nodes.specs.Rows.{AreInside, IsInside}
use Rattle.rdl_addr.specs.Layout.{grouped, has_address, instances}
use Rattle.rdl_addr.proofs.Using.{children-texts}
use Rattle.rdl_nodes.proofs.Members.{each-in, get-made, get-read, place-in}
use Rattle.rdl_nodes.proofs.Order.{shallow-at, stands-under}
use Rattle.rdl_sizes.specs.declared.known.Measure.{Measure}
use Rattle.rdl_sizes.specs.declared.lot.Lot.{Lot}
use Rattle.rdl_sizes.specs.declared.lot.Run.{Run}
use Rattle.rdl_sizes.specs.Bodies.{HasText, IsBodyOf, IsGathered, Runs, is_first, runs, with_one}
use Rattle.rdl_sizes.specs.Levels.{access_at, groups_at, mode_under, size_at}
use Rattle.rdl_sizes.specs.Lots.{AreLotsOf}
use Rattle.rdl_sizes.specs.Sized.{IsMeasure, measure_at}
use Rattle.rdl_sizes.proofs.Runs.{none-grouped, runs-are}

-- Nodes and instances, one by one.
module _ (all : List Lineage) (up : List Instance) (beside : List Node) where
  pub as-many : (rs : List Node) (ns : List Instance) → AreInside all up beside rs ns → length rs ≡ length ns
  as-many [] [] h = refl
  as-many [] (n ∷ ns) h = absurd h
  as-many (r ∷ rs) [] h = absurd h
  as-many (r ∷ rs) (n ∷ ns) h = ap suc (as-many rs ns h.1)

  pub inside-at : (rs : List Node) (ns : List Instance) → AreInside all up beside rs ns → (i : ℕ) (r : Node) → slice_get rs i ≡ Some r → (c : Instance) × (slice_get ns i ≡ Some c) × IsInside all up beside r c
  inside-at [] ns h i r e = cc e
  inside-at (x ∷ xs) [] h i r e = absurd h
  inside-at (x ∷ xs) (n ∷ ns) h zero r e = let s : x ≡ r = cc e in (n, refl, subst (λ y. IsInside all up beside y n) s h.0)
  inside-at (x ∷ xs) (n ∷ ns) h (suc i) r e = inside-at xs ns h.1 i r e

module _ {X : Type 0} where
  pub drop-at : (xs : List X) (i : ℕ) (x : X) → slice_get xs i ≡ Some x → drop i xs ≡ x ∷ drop (suc i) xs
  drop-at [] i x e = cc e
  drop-at (y ∷ ys) zero x e = let s : y ≡ x = cc e in ap (λ z. z ∷ ys) s
  drop-at (y ∷ ys) (suc i) x e = drop-at ys i x e

  pub drop-all : (xs : List X) (i : ℕ) → length xs ≡ i → drop i xs ≡ []
  drop-all [] zero e = refl
  drop-all [] (suc i) e = absurd (omega (arith, e))
  drop-all (x ∷ xs) zero e = absurd (omega (arith, e))
  drop-all (x ∷ xs) (suc i) e = drop-all xs i (omega (arith, e))

  pub read-at : (xs : List X) (i : ℕ) (x : X) → i < length xs → x ≡ get_or xs i x → slice_get xs i ≡ Some x
  read-at [] i x l e = absurd (omega (arith, l))
  read-at (y ∷ ys) zero x l e = ap Some (sym e)
  read-at (y ∷ ys) (suc i) x l e = read-at ys i x (omega (arith, l)) e

-- what is known of the nodes in a body
abbrev pub AreKnown : Elab → Lineage → List Measure → Type 0
AreKnown e n ms = (k : ℕ) (c : Instance) → slice_get (lineages_of e) k ≡ Some (child_of n c) → has_address c ≡ true → IsMeasure (measure_at ms k) (child_of n c)

pub none-yet : (e : Elab) (node : Node) (n : Lineage) → IsBodyOf e node n → (size access : Instance → ℕ) (run : Run) (lots : List Lot) → run ≡ record { count = 0; size = 0; access = 0 } → lots ≡ [] → IsGathered size access run lots (runs (drop (length (out-Node node).children.now) (children n.node)))
none-yet e node n body size access run lots none empty =
    let many = as-many (lineages_of e) (n.node ∷ n.ancestors) (out-Node node).children.now (out-Node node).children.now (children n.node) body.inside in
    let h : IsGathered size access run lots (runs []) = record { count_ = ap (λ r. r.count) none; size_ = ap (λ r. r.size) none; access_ = ap (λ r. r.access) none; lots_ = subst (λ l. AreLotsOf (reverse l) []) (sym empty) tt } in
    subst (λ ns. IsGathered size access run lots (runs ns)) (sym (drop-all (children n.node) (length (out-Node node).children.now) (sym many))) h

module _ (e : Elab) (node : Node) (n : Lineage) (body : IsBodyOf e node n) (ms : List Measure) (known : AreKnown e n ms) where
  abbrev sizes : Instance → ℕ
  sizes c = size_at (child_of n c)

  abbrev widths : Instance → ℕ
  widths c = access_at (child_of n c)

  rs : List Node
  rs = (out-Node node).children.now

  pub turn : (v : Chain) → IsShown v (around_body n.node) → (i : ℕ) (r : Node) → slice_get (out-Node node).children.now i ≡ Some r → (m : Measure) → slice_get ms (out-Node r).id ≡ Some m → (run after : Run) (old new : List Lot)
      → ((size access : Instance → ℕ) (around : Around) (beside : List Node) (c : Instance) (gs : Runs) → IsShown v around → Says beside r c → HasText around c → (has_address c ≡ true → (m.size ≡ size c) × (m.access ≡ access c)) → IsGathered size access run old gs
      → IsGathered size access after new (with_one (has_address c) (is_first c) c gs))
      → IsGathered sizes widths run old (runs (drop (suc i) (children n.node))) → IsGathered sizes widths after new (runs (drop i (children n.node)))
  turn v shown i r at m read run after old new gather before =
      let is = inside-at (lineages_of e) (n.node ∷ n.ancestors) (out-Node node).children.now (out-Node node).children.now (children n.node) body.inside i r at in
      let c = is.0 in
      let text = each-in (HasText (around_body n.node)) (children n.node) c (children-texts n.node) (place-in (children n.node) i c is.1) in
      let size : has_address c ≡ true → (m.size ≡ sizes c) × (m.access ≡ widths c) =
      λ a. let q = known (out-Node r).id c is.2.here a in
      let same = get-read ms (out-Node r).id (record { size = 0; access = 1 }) m read in
      (ap (λ x. x.size) (sym same) ∙ q.size_, ap (λ x. x.access) (sym same) ∙ q.access_) in
      subst (λ ns. IsGathered sizes widths after new (runs ns)) (sym (drop-at (children n.node) i c is.1)) (gather sizes widths (around_body n.node) (out-Node node).children.now c (runs (drop (suc i) (children n.node))) shown is.2.says text size before)

  pub turn-read : (v : Chain) → IsShown v (around_body n.node) → (i : ℕ) (r : Node) → i < length (out-Node node).children.now → r ≡ get_or (out-Node node).children.now i r → All (λ x. (out-Node x).id < length ms) (out-Node node).children.now → (d : Measure) → (run after : Run) (old new : List Lot)
      → ((size access : Instance → ℕ) (around : Around) (beside : List Node) (c : Instance) (gs : Runs) → IsShown v around → Says beside r c → HasText around c → (has_address c ≡ true → ((get_or ms (out-Node r).id d).size ≡ size c) × ((get_or ms (out-Node r).id d).access ≡ access c)) → IsGathered size access run old gs
      → IsGathered size access after new (with_one (has_address c) (is_first c) c gs))
      → IsGathered sizes widths run old (runs (drop (suc i) (children n.node))) → IsGathered sizes widths after new (runs (drop i (children n.node)))
  turn-read v shown i r l at within d run after old new gather before =
      let low : (out-Node r).id < length ms = subst (λ x. (out-Node x).id < length ms) (sym at) (within i r l) in
      turn v shown i r (read-at (out-Node node).children.now i r l at) (get_or ms (out-Node r).id d) (get-made ms (out-Node r).id d (get_or ms (out-Node r).id d) low refl) run after old new gather before

  same-groups : grouped sizes widths (instances n.node) ≡ groups_at n
  unfolding size_at access_at groups_at mode_under
  same-groups = refl

  pub whole-body : (run : Run) (lots : List Lot) → IsGathered sizes widths run lots (runs (children n.node)) → AreLotsOf (reverse lots) (groups_at n)
  whole-body run lots h = by (stands-under n (shallow-at (Some (top_name e)) e.source.now body.number n body.here))
    where
      by : ((ss : List Step) × (n.node.path ≡ below_top ss)) ⊎ (children n.node ≡ []) → AreLotsOf (reverse lots) (groups_at n)
      by (inl under) = subst (AreLotsOf (reverse lots)) (runs-are sizes widths n.node under.0 under.1 ∙ same-groups) h.lots_
      by (inr none) =
          let no_runs : (runs (children n.node)).whole ≡ [] = ap (λ ns. (runs ns).whole) none in
          let empty : grouped sizes widths (runs (children n.node)).whole ≡ groups_at n = ap (grouped sizes widths) no_runs ∙ (sym (none-grouped sizes widths (seen_in n.node) none) ∙ same-groups) in
          subst (AreLotsOf (reverse lots)) empty h.lots_

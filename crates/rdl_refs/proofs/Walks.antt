-- A walk from things without a rank comes back to its own path.
use Rattle.std.specs.List.{AllPairs, count_by}
use Rattle.std.proofs.Common.{◌≡◌, ◌∙◌, ℕ, zero, suc, ◌+◌, ◌<◌, ◌≤◌, ◌⊎◌, inl, inr, cond, Option, None, Some, is_some, List, [], ◌∷◌, ◌++◌, length, get_or, slice_get, drop, refl, sym, ap, subst, arith, length-append}
use Rattle.std.proofs.Math.ListN.{set}
use Rattle.std.proofs.lemmas.Bool.{cases_eq}
use Rattle.std.proofs.lemmas.List.{get_or-set_other, get_or-set_same, length-set}
use Rattle.std.proofs.lemmas.List.Sums.{sum_by-set, count_by-le-length}
use Rattle.topological_order.specs.Levels.{rank_at}
use Rattle.rdl_refs.specs.Graph.{Edges, Refers, GoesRound, IsCircleOf}
use Rattle.rdl_refs.specs.Walk.{IsUnranked, IsWalk}
use Rattle.rdl_refs.proofs.Gets.{get-at, get-within, get-front, get-last, get-pushed, get-drop}

count-marked : (marks : List (Option ℕ)) (i p : ℕ) → i < length marks → rank_at marks i ≡ None → count_by is_some (set marks i (Some p)) ≡ suc (count_by is_some marks)
count-marked marks i p l h =
    let one : Option ℕ → ℕ = λ x. cond (is_some x) 1 0 in
    let e = sum_by-set one marks i (Some p) None l in
    let z : one (get_or marks i None) ≡ 0 = ap one h in
    omega (arith, e, z)

marked-within : (marks : List (Option ℕ)) (i p : ℕ) → rank_at marks i ≡ Some p → i < length marks
marked-within [] i p h = cc h
marked-within (m ∷ ms) zero p h = omega arith
marked-within (m ∷ ms) (suc i) p h = let l = marked-within ms i p h in omega (arith, l)

-- a path has room for a thing that isn't marked
pub path-room : (edges : Edges) (ranks marks : List (Option ℕ)) (path : List ℕ) (thing : ℕ) → IsWalk edges ranks marks path thing → rank_at marks thing ≡ None → length ranks ≡ length edges → length path < length edges
path-room edges ranks marks path thing w free sized =
    let a = w.unranked.0 in let b = w.sized in let c = w.counted in
    let d = count-marked marks thing 0 (omega (arith, a, b, sized)) free in
    let e = count_by-le-length is_some (set marks thing (Some 0)) in let f = length-set marks thing (Some 0) in
    omega (arith, b, c, d, e, f)

-- One step more.
module _ (edges : Edges) (ranks marks : List (Option ℕ)) (path : List ℕ) (thing next : ℕ) (w : IsWalk edges ranks marks path thing) (free : rank_at marks thing ≡ None)
    (refers : Refers edges thing next) (unranked : IsUnranked ranks next) (sized : length ranks ≡ length edges) where
  here : thing < length marks
  here = let a = w.unranked.0 in let b = w.sized in omega (arith, a, b, sized)

  same_mark : rank_at (set marks thing (Some (length path))) thing ≡ Some (length path)
  same_mark = get_or-set_same marks thing (Some (length path)) None here

  other_mark : (i : ℕ) → (i ≡ thing → ⊥) → rank_at (set marks thing (Some (length path))) i ≡ rank_at marks i
  other_mark i ne = get_or-set_other marks thing i (Some (length path)) None ne

  marked_more : (i p : ℕ) → rank_at (set marks thing (Some (length path))) i ≡ Some p → slice_get (path ++ thing ∷ []) p ≡ Some i
  marked_more i p e = elim (cases_eq i thing) [
    | inl s ↦
        let f : Some p ≡ Some (length path) = sym e ∙ (ap (rank_at (set marks thing (Some (length path)))) s ∙ same_mark) in
        let f' : p ≡ length path = cc in
        ap (slice_get (path ++ thing ∷ [])) f' ∙ (get-last path thing ∙ ap Some (sym s))
    | inr ne ↦ get-front path (thing ∷ []) p i (w.marked i p (sym (other_mark i ne) ∙ e))
  ]

  marks_more : (p i : ℕ) → slice_get (path ++ thing ∷ []) p ≡ Some i → rank_at (set marks thing (Some (length path))) i ≡ Some p
  marks_more p i e = elim (get-pushed path thing i p e) [
    | inl h ↦
        let m = w.marks_it p i h in
        elim (cases_eq i thing) [ inl s ↦ cc (sym free ∙ (ap (rank_at marks) (sym s) ∙ m)) | inr ne ↦ other_mark i ne ∙ m ]
    | inr h ↦ ap (rank_at (set marks thing (Some (length path)))) h.1 ∙ (same_mark ∙ ap Some (sym h.0))
  ]

  steps_more : (p a b : ℕ) → slice_get (path ++ thing ∷ []) p ≡ Some a → slice_get (path ++ thing ∷ []) (suc p) ≡ Some b → Refers edges a b
  steps_more p a b e f = elim (get-pushed path thing a p e) [
    | inl h ↦ elim (get-pushed path thing b (suc p) f) [
      | inl k ↦ w.steps p a b h k
      | inr k ↦ subst (Refers edges a) (sym k.1) (w.last p a h k.0)
    ]
    | inr h ↦ absurd (let l = get-within (path ++ thing ∷ []) (suc p) b f in let n = length-append path (thing ∷ []) in let q = h.0 in omega (arith, l, n, q))
  ]

  last_more : (p a : ℕ) → slice_get (path ++ thing ∷ []) p ≡ Some a → suc p ≡ length (path ++ thing ∷ []) → Refers edges a next
  last_more p a e q = elim (get-pushed path thing a p e) [
    | inl h ↦ absurd (let l = get-within path p a h in let n = length-append path (thing ∷ []) in omega (arith, l, n, q))
    | inr h ↦ subst (λ x. Refers edges x next) (sym h.1) refers
  ]

  pub walk-more : IsWalk edges ranks (set marks thing (Some (length path))) (path ++ thing ∷ []) next
  walk-more = record {
    unranked = unranked;
    sized = length-set marks thing (Some (length path)) ∙ w.sized;
    counted = count-marked marks thing (length path) here free ∙ (ap suc w.counted ∙ (let n = length-append path (thing ∷ []) in omega (arith, n)));
    marked = marked_more;
    marks_it = marks_more;
    steps = steps_more;
    last = last_more;
  }

-- a path has no more things than there are
pub walk-short : (edges : Edges) (ranks marks : List (Option ℕ)) (path : List ℕ) (thing : ℕ) → IsWalk edges ranks marks path thing → length path ≤ length edges
walk-short edges ranks marks path thing w = let a = w.counted in let b = w.sized in let c = count_by-le-length is_some marks in omega (arith, a, b, c)

-- The end.

goes-round : (edges : Edges) (first : ℕ) (xs : List ℕ) → ((p a b : ℕ) → slice_get xs p ≡ Some a → slice_get xs (suc p) ≡ Some b → Refers edges a b)
    → ((p a : ℕ) → slice_get xs p ≡ Some a → suc p ≡ length xs → Refers edges a first) → GoesRound edges first xs
goes-round edges first [] steps last = tt
goes-round edges first (a ∷ []) steps last = last 0 a refl refl
goes-round edges first (a ∷ b ∷ more) steps last = (
  steps 0 a b refl refl,
  goes-round edges first (b ∷ more) (λ p x y e f. steps (suc p) x y e f) (λ p x e q. last (suc p) x e (ap suc q)),
)

circle-of : (edges : Edges) (xs : List ℕ) (thing : ℕ) → slice_get xs 0 ≡ Some thing → AllPairs (λ a b. ¬ (a ≡ b)) xs → GoesRound edges thing xs → IsCircleOf edges xs
circle-of edges [] thing h d r = cc h
circle-of edges (x ∷ xs) thing h d r = let same : thing ≡ x = cc in record { differ = d; round = subst (λ y. GoesRound edges y (x ∷ xs)) same r }

module _ (edges : Edges) (ranks marks : List (Option ℕ)) (path : List ℕ) (thing first : ℕ) (w : IsWalk edges ranks marks path thing) (mark : rank_at marks thing ≡ Some first) where
  pub first-within : first ≤ length path
  first-within = let l = get-within path first thing (w.marked thing first mark) in omega (arith, l)

  behind : (p : ℕ) → slice_get (drop first path) p ≡ slice_get path (first + p)
  behind p = get-drop first path p

  at_start : slice_get (drop first path) 0 ≡ Some thing
  at_start = let e : first + 0 ≡ first = omega arith in behind 0 ∙ (ap (slice_get path) e ∙ w.marked thing first mark)

  differ : AllPairs (λ a b. ¬ (a ≡ b)) (drop first path)
  differ i j d l m same =
      let xs = drop first path in
      let a = sym (behind i) ∙ get-at xs i d (omega (arith, l, m)) in
      let b = sym (behind j) ∙ get-at xs j d m in
      let p = w.marks_it (first + i) (get_or xs i d) a in
      let q = w.marks_it (first + j) (get_or xs j d) b in
      let e : Some (first + i) ≡ Some (first + j) = sym p ∙ (ap (rank_at marks) same ∙ q) in
      let f : first + i ≡ first + j = cc in
      omega (arith, f, l)

  steps : (p a b : ℕ) → slice_get (drop first path) p ≡ Some a → slice_get (drop first path) (suc p) ≡ Some b → Refers edges a b
  steps p a b e f = let s : first + suc p ≡ suc (first + p) = omega arith in w.steps (first + p) a b (sym (behind p) ∙ e) (ap (slice_get path) (sym s) ∙ (sym (behind (suc p)) ∙ f))

  last : (p a : ℕ) → slice_get (drop first path) p ≡ Some a → suc p ≡ length (drop first path) → Refers edges a thing
  last p a e q = elim (end (slice_get path (suc (first + p))) refl) [
    | inl l ↦ w.last (first + p) a (sym (behind p) ∙ e) (let m = get-within path (first + p) a (sym (behind p) ∙ e) in omega (arith, l, m))
    | inr x ↦ absurd (
        let s : first + suc p ≡ suc (first + p) = omega arith in
        let l = get-within (drop first path) (suc p) x.0 (behind (suc p) ∙ (ap (slice_get path) s ∙ x.1)) in
        omega (arith, l, q)
        )
  ]
    where
      past : (xs : List ℕ) (i : ℕ) → slice_get xs i ≡ None → length xs ≤ i
      past [] i h = omega arith
      past (x ∷ xs) zero h = cc h
      past (x ∷ xs) (suc i) h = let l = past xs i h in omega (arith, l)

      end : (o : Option ℕ) → slice_get path (suc (first + p)) ≡ o → (length path ≤ suc (first + p)) ⊎ ((x : ℕ) × (slice_get path (suc (first + p)) ≡ Some x))
      end None h = inl (past path (suc (first + p)) h)
      end (Some x) h = inr (x, h)

  pub circle-found : IsCircleOf edges (drop first path)
  circle-found = circle-of edges (drop first path) thing at_start differ (goes-round edges thing (drop first path) steps last)

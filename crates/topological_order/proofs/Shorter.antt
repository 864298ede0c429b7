-- Rings that their first thing leaves, and how long a ring may be.
use Rattle.std.specs.List.{IsDistinct, list_any}
use Rattle.std.proofs.Common.{◌≡◌, ◌∙◌, ℕ, zero, suc, ◌-◌, ◌<◌, eqb, true, Some, List, [], ◌∷◌, ◌++◌, length, drop, get_or, slice_get, refl, ap, sym, ◌⊎◌, inl, inr, arith, length-append}
use Rattle.std.proofs.Math.ListN.{set}
use Rattle.std.proofs.lemmas.Bool.{cases_eq, eqb-true, ne_eqb, or_cases}
use Rattle.std.proofs.lemmas.List.{get_or-set_other, get_or-set_same, length-set}
use Rattle.std.proofs.lemmas.Map.Keys.{IsDistinct-from_apart}
use Rattle.std.proofs.lemmas.Map.Steps.{length-le_from_distinct_below}
use Rattle.plain_lemmas.proofs.Lists.{get-at, get-within, some-at}
use Rattle.topological_order.specs.declared.waiting.Waiting.{Waiting}
use Rattle.topological_order.specs.Waiting.{AreRings, IsFree, StandsAt, behind, count_of, last_of, popped}
use Rattle.topological_order.proofs.Rings.{chosen, get-pushed, last-stands, other}

length-rest : (xs : List ℕ) → length (drop 1 xs) ≡ length xs - 1
length-rest [] = refl
length-rest (x ∷ xs) = omega arith

get-rest : (xs : List ℕ) (k : ℕ) → slice_get (drop 1 xs) k ≡ slice_get xs (suc k)
get-rest [] k = refl
get-rest (x ∷ xs) k = refl

-- the first of a queue that is not empty
pub first-stands : (w : Waiting) (queue : ℕ → List ℕ) (j : ℕ) → AreRings w queue → 0 < length (queue j) → StandsAt queue j 0 (behind w (last_of w j))
first-stands w queue j r l = let (x, at) = some-at (queue j) 0 l in at ∙ ap Some (sym (r.first j x at))

pub last-within : (w : Waiting) (queue : ℕ → List ℕ) (j : ℕ) → AreRings w queue → 0 < length (queue j) → last_of w j < length w.nexts.items
last-within w queue j r l = let (k, long, at) = last-stands w queue j r l in r.within j k (last_of w j) at

pub first-within : (w : Waiting) (queue : ℕ → List ℕ) (j : ℕ) → AreRings w queue → 0 < length (queue j) → behind w (last_of w j) < length w.nexts.items
first-within w queue j r l = r.within j 0 (behind w (last_of w j)) (first-stands w queue j r l)

-- two accounts of the same rings have queues of the same lengths
pub some-still : (w : Waiting) (old new : ℕ → List ℕ) (j : ℕ) → AreRings w old → AreRings w new → 0 < length (old j) → 0 < length (new j)
some-still w old new j r s l = let a = r.sized j in let b = s.sized j in omega (arith, a, b, l)

counted-within : (counts : List ℕ) (i : ℕ) → 0 < get_or counts i 0 → i < length counts
counted-within [] i l = absurd (omega (arith, l))
counted-within (c ∷ cs) zero l = omega arith
counted-within (c ∷ cs) (suc i) l = let m = counted-within cs i l in omega (arith, m)

pub of-within : (w : Waiting) (queue : ℕ → List ℕ) (j : ℕ) → AreRings w queue → 0 < length (queue j) → (j < length w.lasts.items) × (j < length w.counts.items)
of-within w queue j r l =
    let s = r.sized j in let m = counted-within w.counts.items j (omega (arith, s, l)) in let a = r.counts in let b = r.lasts in
    (omega (arith, m, a, b), m)

module _ (queue : ℕ → List ℕ) (of : ℕ) where
  popped-here : popped queue of of ≡ drop 1 (queue of)
  popped-here = chosen (drop 1 (queue of)) (queue of) of of refl

  popped-there : (j : ℕ) → (j ≡ of → ⊥) → popped queue of j ≡ queue j
  popped-there j ne = other (drop 1 (queue of)) (queue j) j of ne

  stands_here : (k x : ℕ) → StandsAt (popped queue of) of k x → StandsAt queue of (suc k) x
  stands_here k x at = sym (get-rest (queue of) k) ∙ (ap (λ xs. slice_get xs k) (sym popped-here) ∙ at)

  stands_there : (j k x : ℕ) → (j ≡ of → ⊥) → StandsAt (popped queue of) j k x → StandsAt queue j k x
  stands_there j k x ne at = ap (λ xs. slice_get xs k) (sym (popped-there j ne)) ∙ at

  at_of : (j k x : ℕ) → j ≡ of → StandsAt (popped queue of) j k x → StandsAt (popped queue of) of k x
  at_of j k x e at = ap (λ n. slice_get (popped queue of n) k) (sym e) ∙ at

  -- where what stands in the new queues stood
  pub popped-stood : (j k x : ℕ) → StandsAt (popped queue of) j k x → (m : ℕ) × StandsAt queue j m x × (j ≡ of → m ≡ suc k)
  popped-stood j k x at = elim (cases_eq j of) [
    | inl e ↦ (suc k, ap (λ n. slice_get (queue n) (suc k)) e ∙ stands_here k x (at_of j k x e at), λ s. refl)
    | inr ne ↦ (k, stands_there j k x ne at, λ s. absurd (ne s))
  ]

  -- what stood behind the first of its queue stands there yet
  pub popped-kept : (j k x : ℕ) → StandsAt queue j k x → ((j ≡ of) × (k ≡ 0)) ⊎ ((m : ℕ) × StandsAt (popped queue of) j m x)
  popped-kept j zero x at = elim (cases_eq j of) [
    | inl e ↦ inl (e, refl)
    | inr ne ↦ inr (0, ap (λ xs. slice_get xs 0) (popped-there j ne) ∙ at)
  ]
  popped-kept j (suc k) x at = elim (cases_eq j of) [
    | inl e ↦ inr (
      k,
      ap (λ n. slice_get (popped queue of n) k) e ∙ (ap (λ xs. slice_get xs k) popped-here ∙ (get-rest (queue of) k ∙ (ap (λ n. slice_get (queue n) (suc k)) (sym e) ∙ at))),
    )
    | inr ne ↦ inr (suc k, ap (λ xs. slice_get xs (suc k)) (popped-there j ne) ∙ at)
  ]

  pub popped-long : length (popped queue of of) ≡ length (queue of) - 1
  popped-long = ap length popped-here ∙ length-rest (queue of)

module _ (w new : Waiting) (queue : ℕ → List ℕ) (of : ℕ) (r : AreRings w queue) (some : 0 < length (queue of))
    (counts : new.counts.items ≡ set w.counts.items of (count_of w of - 1)) (lasts : new.lasts.items ≡ w.lasts.items)
    (nexts : new.nexts.items ≡ set w.nexts.items (last_of w of) (behind w (behind w (last_of w of)))) where
  last_stood : (k : ℕ) × (suc k ≡ length (queue of)) × StandsAt queue of k (last_of w of)
  last_stood = last-stands w queue of r some

  pub nexts-long : length new.nexts.items ≡ length w.nexts.items
  nexts-long = ap length nexts ∙ length-set w.nexts.items (last_of w of) (behind w (behind w (last_of w of)))

  last_same : (j : ℕ) → last_of new j ≡ last_of w j
  last_same j = ap (λ l. get_or l j 0) lasts

  behind_last : behind new (last_of w of) ≡ behind w (behind w (last_of w of))
  behind_last = ap (λ l. get_or l (last_of w of) 0) nexts ∙ get_or-set_same w.nexts.items (last_of w of) (behind w (behind w (last_of w of))) 0 (last-within w queue of r some)

  behind_other : (x : ℕ) → (x ≡ last_of w of → ⊥) → behind new x ≡ behind w x
  behind_other x ne = ap (λ l. get_or l x 0) nexts ∙ get_or-set_other w.nexts.items (last_of w of) x (behind w (behind w (last_of w of))) 0 ne

  not_last : (j k x : ℕ) → StandsAt queue j k x → (j ≡ of → suc k ≡ length (queue of) → ⊥) → x ≡ last_of w of → ⊥
  not_last j k x at before e =
      let (m, long, last) = last_stood in
      let same = r.once j k of m x at (last ∙ ap Some (sym e)) in
      before same.0 (ap suc same.1 ∙ long)

  first_new : (j x : ℕ) → StandsAt (popped queue of) j 0 x → behind new (last_of new j) ≡ x
  first_new j x at = elim (cases_eq j of) [
    | inl e ↦ ap (λ n. behind new (last_of new n)) e
        ∙ (ap (behind new) (last_same of)
        ∙ (behind_last ∙ r.linked of 0 (behind w (last_of w of)) x (first-stands w queue of r some) (stands_here queue of 0 x (at_of queue of j 0 x e at))))
    | inr ne ↦
        let old = stands_there queue of j 0 x ne at in
        let (k, long, last) = last-stands w queue j r (let l = get-within (queue j) 0 x old in omega (arith, l)) in
        ap (behind new) (last_same j) ∙ (behind_other (last_of w j) (not_last j k (last_of w j) last (λ e l. ne e)) ∙ r.first j x old)
  ]

  linked_new : (j k x y : ℕ) → StandsAt (popped queue of) j k x → StandsAt (popped queue of) j (suc k) y → behind new x ≡ y
  linked_new j k x y at next = elim (cases_eq j of) [
    | inl e ↦
        let a = stands_here queue of k x (at_of queue of j k x e at) in
        let b = stands_here queue of (suc k) y (at_of queue of j (suc k) y e next) in
        behind_other x (not_last of (suc k) x a (λ s l. let m = get-within (queue of) (suc (suc k)) y b in omega (arith, m, l))) ∙ r.linked of (suc k) x y a b
    | inr ne ↦
        let a = stands_there queue of j k x ne at in
        let b = stands_there queue of j (suc k) y ne next in
        behind_other x (not_last j k x a (λ e l. ne e)) ∙ r.linked j k x y a b
  ]

  last_new : (j k x : ℕ) → StandsAt (popped queue of) j k x → suc k ≡ length (popped queue of j) → last_of new j ≡ x
  last_new j k x at long = elim (cases_eq j of) [
    | inl e ↦
        let l : suc k ≡ length (queue of) - 1 = long ∙ (ap (λ n. length (popped queue of n)) e ∙ popped-long queue of) in
        ap (last_of new) e ∙ (last_same of ∙ r.last of (suc k) x (stands_here queue of k x (at_of queue of j k x e at)) (omega (arith, l)))
    | inr ne ↦ last_same j ∙ r.last j k x (stands_there queue of j k x ne at) (long ∙ ap length (popped-there queue of j ne))
  ]

  once_new : (j k i m x : ℕ) → StandsAt (popped queue of) j k x → StandsAt (popped queue of) i m x → (j ≡ i) × (k ≡ m)
  once_new j k i m x at too = elim (cases_eq j of) [
    | inl e ↦ elim (cases_eq i of) [
      | inl f ↦
          let same = r.once of (suc k) of (suc m) x (stands_here queue of k x (at_of queue of j k x e at)) (stands_here queue of m x (at_of queue of i m x f too)) in
          (e ∙ sym f, let s = same.1 in omega (arith, s))
      | inr ne ↦ absurd (ne (sym (r.once of (suc k) i m x (stands_here queue of k x (at_of queue of j k x e at)) (stands_there queue of i m x ne too)).0))
    ]
    | inr ne ↦ elim (cases_eq i of) [
      | inl f ↦ absurd (ne (r.once j k of (suc m) x (stands_there queue of j k x ne at) (stands_here queue of m x (at_of queue of i m x f too))).0)
      | inr nf ↦ r.once j k i m x (stands_there queue of j k x ne at) (stands_there queue of i m x nf too)
    ]
  ]

  pub rings-popped : AreRings new (popped queue of)
  rings-popped = record {
    counts = ap length counts ∙ (length-set w.counts.items of (count_of w of - 1) ∙ (r.counts ∙ sym nexts-long));
    lasts = ap length lasts ∙ (r.lasts ∙ sym nexts-long);
    sized = λ j. elim (cases_eq j of) [
      | inl e ↦ ap (λ n. length (popped queue of n)) e
          ∙ (popped-long queue of ∙ (ap (λ n. n - 1) (r.sized of) ∙ (sym (ap (λ l. get_or l of 0) counts ∙ get_or-set_same w.counts.items of (count_of w of - 1) 0 (of-within w queue of r some).1) ∙ ap (count_of new) (sym e))))
      | inr ne ↦ ap length (popped-there queue of j ne) ∙ (r.sized j ∙ sym (ap (λ l. get_or l j 0) counts ∙ get_or-set_other w.counts.items of j (count_of w of - 1) 0 ne))
    ];
    first = first_new;
    linked = linked_new;
    last = last_new;
    within = λ j k x at. let (m, old, e) = popped-stood queue of j k x at in let l = r.within j m x old in let s = nexts-long in omega (arith, l, s);
    once = once_new;
  }

-- a ring has room for a thing that waits for none

any-stands : (x : ℕ) (xs : List ℕ) → list_any (eqb x) xs ≡ true → (k : ℕ) × (slice_get xs k ≡ Some x)
any-stands x [] h = cc h
any-stands x (y ∷ ys) h = elim (or_cases (eqb x y) (list_any (eqb x) ys) h) [
  | inl e ↦ (zero, ap Some (sym (eqb-true x y e)))
  | inr p ↦ let (k, at) = any-stands x ys p in (suc k, at)
]

pub room : (w : Waiting) (queue : ℕ → List ℕ) (to thing : ℕ) → AreRings w queue → IsFree queue thing → thing < length w.nexts.items → count_of w to < length w.nexts.items
room w queue to thing r free within =
    let l = length-le_from_distinct_below (queue to ++ thing ∷ []) (length w.nexts.items) distinct below in let s = r.sized to in let n = length-append (queue to) (thing ∷ []) in
    omega (arith, l, s, n)
  where
    same : (i j x : ℕ) → i < j → slice_get (queue to ++ thing ∷ []) i ≡ Some x → slice_get (queue to ++ thing ∷ []) j ≡ Some x → ⊥
    same i j x l a b = elim (get-pushed (queue to) thing x i a) [
      | inl p ↦ elim (get-pushed (queue to) thing x j b) [
        | inl q ↦ (let e = (r.once to i to j x p q).1 in omega (arith, e, l))
        | inr q ↦ free to i (p ∙ ap Some q.1)
      ]
      | inr p ↦ (let m = get-within (queue to ++ thing ∷ []) j x b in let e = p.0 in let n = length-append (queue to) (thing ∷ []) in omega (arith, m, e, l, n))
    ]

    distinct : IsDistinct eqb (queue to ++ thing ∷ [])
    distinct = IsDistinct-from_apart eqb (queue to ++ thing ∷ []) (λ i j d l m. ne_eqb (get_or (queue to ++ thing ∷ []) i d) (get_or (queue to ++ thing ∷ []) j d) (λ e.
        same i j (get_or (queue to ++ thing ∷ []) i d) l (get-at (queue to ++ thing ∷ []) i d (omega (arith, l, m))) (get-at (queue to ++ thing ∷ []) j d m ∙ ap Some (sym e))))

    below : (x : ℕ) → list_any (eqb x) (queue to ++ thing ∷ []) ≡ true → x < length w.nexts.items
    below x h = let (k, at) = any-stands x (queue to ++ thing ∷ []) h in elim (get-pushed (queue to) thing x k at) [
      | inl p ↦ r.within to k x p
      | inr p ↦ (let e = p.1 in omega (arith, e, within))
    ]

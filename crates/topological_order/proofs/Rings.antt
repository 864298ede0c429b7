-- Rings that a thing joins or leaves.
use Rattle.std.proofs.Common.{◌≡◌, ◌∙◌, ℕ, zero, suc, ◌+◌, ◌<◌, ◌==◌, Bool, if◌then◌else◌, Some, List, [], ◌∷◌, ◌++◌, length, get_or, slice_get, refl, ap, sym, ◌⊎◌, inl, inr, arith, length-append}
use Rattle.std.proofs.Math.ListN.{set}
use Rattle.std.proofs.lemmas.Bool.{cases_eq, eq-eqb, ne_eqb}
use Rattle.std.proofs.lemmas.List.{get_or-set_other, get_or-set_same, length-set}
use Rattle.plain_lemmas.proofs.Lists.{get-front, get-last, get-within, some-at}
use Rattle.topological_order.specs.declared.waiting.Waiting.{Waiting}
use Rattle.topological_order.specs.Waiting.{AreRings, IsFree, StandsAt, behind, count_of, last_of, pushed}

pub get-pushed : {X : Type 0} (xs : List X) (w x : X) (m : ℕ) → slice_get (xs ++ w ∷ []) m ≡ Some x → (slice_get xs m ≡ Some x) ⊎ ((m ≡ length xs) × (x ≡ w))
get-pushed [] w x zero h = inr (refl, cc)
get-pushed [] w x (suc m) h = cc h
get-pushed (y ∷ xs) w x zero h = inl h
get-pushed (y ∷ xs) w x (suc m) h = elim (get-pushed xs w x m h) [ inl p ↦ inl p | inr p ↦ inr (ap suc p.0, p.1) ]

pub chosen : {X : Type 0} (a b : X) (j to : ℕ) → j ≡ to → (if j == to then a else b) ≡ a
chosen a b j to e = ap (λ (t : Bool). if t then a else b) (eq-eqb j to e)

pub other : {X : Type 0} (a b : X) (j to : ℕ) → (j ≡ to → ⊥) → (if j == to then a else b) ≡ b
other a b j to ne = ap (λ (t : Bool). if t then a else b) (ne_eqb j to ne)

module _ (queue : ℕ → List ℕ) (to thing : ℕ) where
  pushed-here : pushed queue to thing to ≡ queue to ++ thing ∷ []
  pushed-here = chosen (queue to ++ thing ∷ []) (queue to) to to refl

  pushed-there : (j : ℕ) → (j ≡ to → ⊥) → pushed queue to thing j ≡ queue j
  pushed-there j ne = other (queue to ++ thing ∷ []) (queue j) j to ne

  -- what stands in the new queues
  pub pushed-cases : (j k x : ℕ) → StandsAt (pushed queue to thing) j k x → StandsAt queue j k x ⊎ ((j ≡ to) × (k ≡ length (queue to)) × (x ≡ thing))
  pushed-cases j k x at = elim (cases_eq j to) [
    | inl e ↦ elim (get-pushed (queue to) thing x k (ap (λ xs. slice_get xs k) (sym pushed-here) ∙ (ap (λ n. slice_get (pushed queue to thing n) k) (sym e) ∙ at))) [
      | inl p ↦ inl (ap (λ n. slice_get (queue n) k) e ∙ p)
      | inr p ↦ inr (e, p.0, p.1)
    ]
    | inr ne ↦ inl (ap (λ xs. slice_get xs k) (sym (pushed-there j ne)) ∙ at)
  ]

  pub pushed-kept : (j k x : ℕ) → StandsAt queue j k x → StandsAt (pushed queue to thing) j k x
  pushed-kept j k x at = elim (cases_eq j to) [
    | inl e ↦ ap (λ n. slice_get (pushed queue to thing n) k) e
        ∙ (ap (λ xs. slice_get xs k) pushed-here ∙ get-front (queue to) (thing ∷ []) k x (ap (λ n. slice_get (queue n) k) (sym e) ∙ at))
    | inr ne ↦ ap (λ xs. slice_get xs k) (pushed-there j ne) ∙ at
  ]

  pub pushed-last : StandsAt (pushed queue to thing) to (length (queue to)) thing
  pushed-last = ap (λ xs. slice_get xs (length (queue to))) pushed-here ∙ get-last (queue to) thing

  pub pushed-long : (j : ℕ) → (j ≡ to → ⊥) → length (pushed queue to thing j) ≡ length (queue j)
  pushed-long j ne = ap length (pushed-there j ne)

-- the last of a queue that is not empty
pub last-stands : (w : Waiting) (queue : ℕ → List ℕ) (j : ℕ) → AreRings w queue → 0 < length (queue j) → (k : ℕ) × (suc k ≡ length (queue j)) × StandsAt queue j k (last_of w j)
last-stands w queue j r l = go (queue j) refl l
  where
    go : (xs : List ℕ) → queue j ≡ xs → 0 < length xs → (k : ℕ) × (suc k ≡ length (queue j)) × StandsAt queue j k (last_of w j)
    go [] e l = absurd (omega (arith, l))
    go (x ∷ xs) e l =
        let (y, at) = some-at (queue j) (length xs) (let a = ap length e in omega (arith, a)) in
        let long : suc (length xs) ≡ length (queue j) = sym (ap length e) in
        (length xs, long, at ∙ ap Some (sym (r.last j (length xs) y at long)))

-- a thing joins a ring
module _ (w new : Waiting) (queue : ℕ → List ℕ) (to thing : ℕ) (r : AreRings w queue) (free : IsFree queue thing) (to_within : to < length w.nexts.items) (within : thing < length w.nexts.items)
    (counts : new.counts.items ≡ set w.counts.items to (count_of w to + 1)) (lasts : new.lasts.items ≡ set w.lasts.items to thing)
    (alone : count_of w to ≡ 0 → new.nexts.items ≡ set w.nexts.items thing thing)
    (behind_last : (count_of w to ≡ 0 → ⊥) → new.nexts.items ≡ set (set w.nexts.items thing (behind w (last_of w to))) (last_of w to) thing) where
  count_here : count_of new to ≡ count_of w to + 1
  count_here = ap (λ l. get_or l to 0) counts ∙ get_or-set_same w.counts.items to (count_of w to + 1) 0 (let a = r.counts in omega (arith, a, to_within))

  count_there : (j : ℕ) → (j ≡ to → ⊥) → count_of new j ≡ count_of w j
  count_there j ne = ap (λ l. get_or l j 0) counts ∙ get_or-set_other w.counts.items to j (count_of w to + 1) 0 ne

  last_here : last_of new to ≡ thing
  last_here = ap (λ l. get_or l to 0) lasts ∙ get_or-set_same w.lasts.items to thing 0 (let a = r.lasts in omega (arith, a, to_within))

  last_there : (j : ℕ) → (j ≡ to → ⊥) → last_of new j ≡ last_of w j
  last_there j ne = ap (λ l. get_or l j 0) lasts ∙ get_or-set_other w.lasts.items to j thing 0 ne

  some : (k x : ℕ) → StandsAt queue to k x → count_of w to ≡ 0 → ⊥
  some k x at none = let a = get-within (queue to) k x at in let b = r.sized to in omega (arith, a, b, none)

  last_stands : (count_of w to ≡ 0 → ⊥) → (k : ℕ) × (suc k ≡ length (queue to)) × StandsAt queue to k (last_of w to)
  last_stands some = last-stands w queue to r (elim (cases_eq (length (queue to)) 0) [ inl e ↦ absurd (some (sym (r.sized to) ∙ e)) | inr ne ↦ omega (arith, ne) ])

  not_thing : (j k x : ℕ) → StandsAt queue j k x → x ≡ thing → ⊥
  not_thing j k x at e = free j k (at ∙ ap Some e)

  last_long : length (set w.nexts.items thing (behind w (last_of w to))) ≡ length w.nexts.items
  last_long = length-set w.nexts.items thing (behind w (last_of w to))

  pub nexts-long : length new.nexts.items ≡ length w.nexts.items
  nexts-long = elim (cases_eq (count_of w to) 0) [
    | inl e ↦ ap length (alone e) ∙ length-set w.nexts.items thing thing
    | inr ne ↦ ap length (behind_last ne) ∙ (length-set (set w.nexts.items thing (behind w (last_of w to))) (last_of w to) thing ∙ last_long)
  ]

  behind_thing_alone : count_of w to ≡ 0 → behind new thing ≡ thing
  behind_thing_alone e = ap (λ l. get_or l thing 0) (alone e) ∙ get_or-set_same w.nexts.items thing thing 0 within

  behind_thing : (count_of w to ≡ 0 → ⊥) → behind new thing ≡ behind w (last_of w to)
  behind_thing ne =
      let (k, long, at) = last_stands ne in
      ap (λ l. get_or l thing 0) (behind_last ne)
      ∙ (get_or-set_other (set w.nexts.items thing (behind w (last_of w to))) (last_of w to) thing thing 0 (λ e. not_thing to k (last_of w to) at (sym e))
      ∙ get_or-set_same w.nexts.items thing (behind w (last_of w to)) 0 within)

  behind_last_new : (count_of w to ≡ 0 → ⊥) → behind new (last_of w to) ≡ thing
  behind_last_new ne =
      let (k, long, at) = last_stands ne in let l = r.within to k (last_of w to) at in
      ap (λ l. get_or l (last_of w to) 0) (behind_last ne)
      ∙ get_or-set_same (set w.nexts.items thing (behind w (last_of w to))) (last_of w to) thing 0 (omega (arith, l, last_long))

  behind_other : (x : ℕ) → (x ≡ thing → ⊥) → ((count_of w to ≡ 0 → ⊥) → x ≡ last_of w to → ⊥) → behind new x ≡ behind w x
  behind_other x ne nl = elim (cases_eq (count_of w to) 0) [
    | inl e ↦ ap (λ l. get_or l x 0) (alone e) ∙ get_or-set_other w.nexts.items thing x thing 0 ne
    | inr some ↦ ap (λ l. get_or l x 0) (behind_last some)
        ∙ (get_or-set_other (set w.nexts.items thing (behind w (last_of w to))) (last_of w to) x thing 0 (nl some)
        ∙ get_or-set_other w.nexts.items thing x (behind w (last_of w to)) 0 ne)
  ]

  -- a thing of another queue, or one with another behind it, is not the last of this one
  not_last : (j k x : ℕ) → StandsAt queue j k x → ((j ≡ to) → suc k ≡ length (queue to) → ⊥) → (count_of w to ≡ 0 → ⊥) → x ≡ last_of w to → ⊥
  not_last j k x at before ne e =
      let (m, long, last) = last_stands ne in
      let same = r.once j k to m x at (last ∙ ap Some (sym e)) in
      before same.0 (ap suc same.1 ∙ long)

  first_new : (j x : ℕ) → StandsAt (pushed queue to thing) j 0 x → behind new (last_of new j) ≡ x
  first_new j x at = elim (pushed-cases queue to thing j 0 x at) [
    | inl old ↦ elim (cases_eq j to) [
      | inl e ↦
          let old' : StandsAt queue to 0 x = ap (λ n. slice_get (queue n) 0) (sym e) ∙ old in
          ap (λ n. behind new (last_of new n)) e ∙ (ap (behind new) last_here ∙ (behind_thing (some 0 x old') ∙ r.first to x old'))
      | inr ne ↦
          let (k, long, last) = last-stands w queue j r (let l = get-within (queue j) 0 x old in omega (arith, l)) in
          ap (behind new) (last_there j ne)
          ∙ (behind_other (last_of w j) (not_thing j k (last_of w j) last) (not_last j k (last_of w j) last (λ e l. ne e)) ∙ r.first j x old)
    ]
    | inr p ↦
        let none : count_of w to ≡ 0 = sym (r.sized to) ∙ sym p.1 in
        ap (λ n. behind new (last_of new n)) p.0 ∙ (ap (behind new) last_here ∙ (behind_thing_alone none ∙ sym p.2))
  ]

  linked_new : (j k x y : ℕ) → StandsAt (pushed queue to thing) j k x → StandsAt (pushed queue to thing) j (suc k) y → behind new x ≡ y
  linked_new j k x y at next = elim (pushed-cases queue to thing j k x at) [
    | inl old ↦ elim (pushed-cases queue to thing j (suc k) y next) [
      | inl more ↦
          behind_other x (not_thing j k x old) (not_last j k x old (λ e l. let m = get-within (queue j) (suc k) y more in let s = ap (λ n. length (queue n)) e in omega (arith, m, l, s)))
          ∙ r.linked j k x y old more
      | inr p ↦
          let old' : StandsAt queue to k x = ap (λ n. slice_get (queue n) k) (sym p.0) ∙ old in
          ap (behind new) (sym (r.last to k x old' p.1)) ∙ (behind_last_new (some k x old') ∙ sym p.2)
    ]
    | inr p ↦ elim (pushed-cases queue to thing j (suc k) y next) [
      | inl more ↦ absurd (let m = get-within (queue j) (suc k) y more in let s = ap (λ n. length (queue n)) p.0 in let l = p.1 in omega (arith, m, l, s))
      | inr q ↦ absurd (let a = p.1 in let b = q.1 in omega (arith, a, b))
    ]
  ]

  last_new : (j k x : ℕ) → StandsAt (pushed queue to thing) j k x → suc k ≡ length (pushed queue to thing j) → last_of new j ≡ x
  last_new j k x at long = elim (cases_eq j to) [
    | inl e ↦
        let s : suc k ≡ suc (length (queue to)) = long ∙ (ap (λ n. length (pushed queue to thing n)) e ∙ (ap length (pushed-here queue to thing) ∙ (let a = length-append (queue to) (thing ∷ []) in omega (arith, a)))) in
        elim (pushed-cases queue to thing j k x at) [
          | inl old ↦ absurd (let l = get-within (queue j) k x old in let n = ap (λ n. length (queue n)) e in omega (arith, l, s, n))
          | inr p ↦ ap (last_of new) e ∙ (last_here ∙ sym p.2)
        ]
    | inr ne ↦ elim (pushed-cases queue to thing j k x at) [
      | inl old ↦ last_there j ne ∙ r.last j k x old (long ∙ ap length (pushed-there queue to thing j ne))
      | inr p ↦ absurd (ne p.0)
    ]
  ]

  once_new : (j k i m x : ℕ) → StandsAt (pushed queue to thing) j k x → StandsAt (pushed queue to thing) i m x → (j ≡ i) × (k ≡ m)
  once_new j k i m x at too = elim (pushed-cases queue to thing j k x at) [
    | inl a ↦ elim (pushed-cases queue to thing i m x too) [ inl b ↦ r.once j k i m x a b | inr q ↦ absurd (not_thing j k x a q.2) ]
    | inr p ↦ elim (pushed-cases queue to thing i m x too) [ inl b ↦ absurd (not_thing i m x b p.2) | inr q ↦ (p.0 ∙ sym q.0, p.1 ∙ sym q.1) ]
  ]

  pub rings-pushed : AreRings new (pushed queue to thing)
  rings-pushed = record {
    counts = ap length counts ∙ (length-set w.counts.items to (count_of w to + 1) ∙ (r.counts ∙ sym nexts-long));
    lasts = ap length lasts ∙ (length-set w.lasts.items to thing ∙ (r.lasts ∙ sym nexts-long));
    sized = λ j. elim (cases_eq j to) [
      | inl e ↦ ap (λ n. length (pushed queue to thing n)) e
          ∙ (ap length (pushed-here queue to thing) ∙ ((let a = length-append (queue to) (thing ∷ []) in let b = r.sized to in let c = count_here in omega (arith, a, b, c)) ∙ ap (count_of new) (sym e)))
      | inr ne ↦ ap length (pushed-there queue to thing j ne) ∙ (r.sized j ∙ sym (count_there j ne))
    ];
    first = first_new;
    linked = linked_new;
    last = last_new;
    within = λ j k x at. elim (pushed-cases queue to thing j k x at) [
      | inl old ↦ (let l = r.within j k x old in let s = nexts-long in omega (arith, l, s))
      | inr p ↦ (let e = p.2 in let s = nexts-long in omega (arith, e, s, within))
    ];
    once = once_new;
  }

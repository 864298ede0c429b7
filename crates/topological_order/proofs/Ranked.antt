-- A thing is ranked.
use Rattle.std.specs.List.{count_by}
use Rattle.std.proofs.Common.{◌≡◌, ◌∙◌, ℕ, suc, ◌+◌, ◌<◌, ◌≤◌, true, cond, Option, Some, None, is_some, List, [], ◌∷◌, ◌++◌, length, get_or, slice_get, refl, ap, sym, subst, ◌⊎◌, inl, inr, arith, length-append}
use Rattle.std.proofs.Math.ListN.{set}
use Rattle.std.proofs.lemmas.Bool.{cases_eq, cases_lt}
use Rattle.std.proofs.lemmas.List.{get_or-set_other, get_or-set_same, length-set}
use Rattle.std.proofs.lemmas.List.Sums.{sum_by-set, count_by-le-length}
use Rattle.plain_lemmas.proofs.Lists.{get-front, get-last, get-within}
use Rattle.topological_order.specs.declared.ranking.Ranking.{Ranking}
use Rattle.topological_order.specs.Levels.{need_at, rank_at}
use Rattle.topological_order.specs.Ranking.{AreInOrder, IsIdle, IsRanked, IsSound, Waits, place_of}
use Rattle.topological_order.specs.Waiting.{AreRings, StandsAt, count_of}
use Rattle.topological_order.proofs.Rings.{get-pushed}

-- one thing more is ranked
count-ranked : (ranks : List (Option ℕ)) (i r : ℕ) → i < length ranks → get_or ranks i None ≡ None → count_by is_some (set ranks i (Some r)) ≡ suc (count_by is_some ranks)
count-ranked ranks i r l h =
    let one : Option ℕ → ℕ = λ x. cond (is_some x) 1 0 in
    let e = sum_by-set one ranks i (Some r) None l in
    let z : one (get_or ranks i None) ≡ 0 = ap one h in
    omega (arith, e, z)

-- the order has room for a thing without a rank
pub order-room : (needs : List (List ℕ)) (s : Ranking) (by : ℕ) → AreInOrder needs s → by < length needs → rank_at s.ranks.items by ≡ None → length s.order.items < length needs
order-room needs s by order l free =
    let sized = order.sized in
    let a = count-ranked s.ranks.items by 0 (omega (arith, sized, l)) free in
    let b = count_by-le-length is_some (set s.ranks.items by (Some 0)) in let c = length-set s.ranks.items by (Some 0) in let d = order.counted in
    omega (arith, a, b, c, d, sized)

module _ (needs : List (List ℕ)) (old new : Ranking) (from done by : ℕ) (sound : IsSound needs from done (Some by) old) (within : by < length needs) (reached : done ≤ length old.order.items)
    (before : (k h : ℕ) → need_at needs by k ≡ Some h → IsRanked old.ranks.items h)
    (ranks : new.ranks.items ≡ set old.ranks.items by (Some (length old.order.items))) (order : new.order.items ≡ old.order.items ++ by ∷ [])
    (places : new.places ≡ old.places) (waiting : new.waiting ≡ old.waiting) where
  in_ranks : by < length old.ranks.items
  in_ranks = let a = sound.in_order.sized in omega (arith, a, within)

  idle : (by < from) × IsIdle old sound.queue by
  idle = sound.free by refl

  rank_here : rank_at new.ranks.items by ≡ Some (length old.order.items)
  rank_here = ap (λ l. get_or l by None) ranks ∙ get_or-set_same old.ranks.items by (Some (length old.order.items)) None in_ranks

  rank_there : (i : ℕ) → (i ≡ by → ⊥) → rank_at new.ranks.items i ≡ rank_at old.ranks.items i
  rank_there i ne = ap (λ l. get_or l i None) ranks ∙ get_or-set_other old.ranks.items by i (Some (length old.order.items)) None ne

  not_by : (i r : ℕ) → rank_at old.ranks.items i ≡ Some r → i ≡ by → ⊥
  not_by i r e s = cc (sym idle.1.0 ∙ (ap (rank_at old.ranks.items) (sym s) ∙ e))

  still : (i r : ℕ) → rank_at old.ranks.items i ≡ Some r → rank_at new.ranks.items i ≡ Some r
  still i r e = rank_there i (not_by i r e) ∙ e

  rank_new : (i r : ℕ) → rank_at new.ranks.items i ≡ Some r → (rank_at old.ranks.items i ≡ Some r) ⊎ ((i ≡ by) × (r ≡ length old.order.items))
  rank_new i r e = elim (cases_eq i by) [
    | inl s ↦ inr (s, (let f : Some r ≡ Some (length old.order.items) = sym e ∙ (ap (rank_at new.ranks.items) s ∙ rank_here) in cc))
    | inr ne ↦ inl (sym (rank_there i ne) ∙ e)
  ]

  ranked_yet : (i : ℕ) → IsRanked old.ranks.items i → IsRanked new.ranks.items i
  ranked_yet i h = (h.0, still i h.0 h.1)

  -- a rank is below the length of the order
  rank_low : (i r : ℕ) → rank_at old.ranks.items i ≡ Some r → r < length old.order.items
  rank_low i r e = get-within old.order.items r i (sound.in_order.ordered i r e)

  same_place : (i : ℕ) → place_of new i ≡ place_of old i
  same_place i = ap (λ v. get_or v.items i 0) places

  in_order : AreInOrder needs new
  in_order = record {
    sized = ap length ranks ∙ (length-set old.ranks.items by (Some (length old.order.items)) ∙ sound.in_order.sized);
    placed = ap (λ v. length v.items) places ∙ sound.in_order.placed;
    waited = ap (λ w. length w.nexts.items) waiting ∙ sound.in_order.waited;
    counted = ap (count_by is_some) ranks ∙ (count-ranked old.ranks.items by (length old.order.items) in_ranks idle.1.0
        ∙ (ap suc sound.in_order.counted ∙ (let a = length-append old.order.items (by ∷ []) in let b = ap length order in omega (arith, a, b))));
    ordered = λ i r e. ap (λ l. slice_get l r) order ∙ elim (rank_new i r e) [
      | inl p ↦ get-front old.order.items (by ∷ []) r i (sound.in_order.ordered i r p)
      | inr p ↦ ap (λ n. slice_get (old.order.items ++ by ∷ []) n) p.1 ∙ (get-last old.order.items by ∙ ap Some (sym p.0))
    ];
    ranked = λ r i e. elim (get-pushed old.order.items by i r (ap (λ l. slice_get l r) (sym order) ∙ e)) [
      | inl p ↦ let q = sound.in_order.ranked r i p in (q.0, still i r q.1)
      | inr p ↦ ((let a = p.1 in omega (arith, a, within)), ap (rank_at new.ranks.items) p.1 ∙ (rank_here ∙ ap Some (sym p.0)))
    ];
    rises = λ i r k j e f. elim (rank_new i r e) [
      | inl p ↦ let q = sound.in_order.rises i r k j p f in (q.0, still j q.0 q.1, q.2)
      | inr p ↦
          let q = before k j (ap (λ n. need_at needs n k) (sym p.0) ∙ f) in
          let low = rank_low j q.0 q.1 in let top = p.1 in
          (q.0, still j q.0 q.1, omega (arith, low, top))
    ];
    earlier = λ i k h l f. ranked_yet h (sound.in_order.earlier i k h (let p = same_place i in omega (arith, l, p)) f);
  }

  waits_new : (j k i : ℕ) → StandsAt sound.queue j k i → (rank_at new.ranks.items i ≡ None) × (need_at needs i (place_of new i) ≡ Some j)
  waits_new j k i stands = let q = sound.waits j k i stands in (rank_there i (λ e. idle.1.1 j k (stands ∙ ap Some e)) ∙ q.0, ap (need_at needs i) (same_place i) ∙ q.1)

  later_new : (i : ℕ) → from ≤ i → IsIdle new sound.queue i
  later_new i l = (rank_there i (λ e. let b = idle.0 in omega (arith, b, e, l)) ∙ (sound.later i l).0, (sound.later i l).1)

  each_new : (i : ℕ) → i < length needs → rank_at new.ranks.items i ≡ None → (from ≤ i) ⊎ (None ≡ Some i) ⊎ Waits new sound.queue done i
  each_new i l free = elim (cases_eq i by) [
    | inl e ↦ cc (sym free ∙ (ap (rank_at new.ranks.items) e ∙ rank_here))
    | inr ne ↦ elim (sound.each i l (sym (rank_there i ne) ∙ free)) [
      | inl low ↦ inl low
      | inr (inl e) ↦ absurd (ne (let same : i ≡ by = cc in same))
      | inr (inr w) ↦ inr (inr (w.0, w.1, w.2, λ r f. elim (rank_new w.0 r f) [ inl p ↦ w.3 r p | inr p ↦ (let top = p.1 in omega (arith, top, reached)) ]))
    ]
  ]

  pub sound-ranked : IsSound needs from done None new
  sound-ranked = record {
    in_order = in_order;
    queue = sound.queue;
    rings = subst (λ w. AreRings w sound.queue) (sym waiting) sound.rings;
    waits = waits_new;
    later = later_new;
    free = λ i e. cc e;
    each = each_new;
  }

  pub kept-ranked : (i r : ℕ) → rank_at old.ranks.items i ≡ Some r → (rank_at new.ranks.items i ≡ Some r) × (count_of new.waiting i ≡ count_of old.waiting i)
  kept-ranked i r e = (still i r e, ap (λ w. count_of w i) waiting)

-- ranks that are read

pub ranked-from : (ranks : List (Option ℕ)) (i : ℕ) (o : Option ℕ) → rank_at ranks i ≡ o → is_some o ≡ true → IsRanked ranks i
ranked-from ranks i None h s = cc s
ranked-from ranks i (Some r) h s = (r, h)

pub more-ranked : (ranks : List (Option ℕ)) (needs : List ℕ) (from place need : ℕ) → slice_get needs place ≡ Some need → IsRanked ranks need
    → ((i j : ℕ) → from ≤ i → i < place → slice_get needs i ≡ Some j → IsRanked ranks j)
    → (i j : ℕ) → from ≤ i → i < place + 1 → slice_get needs i ≡ Some j → IsRanked ranks j
more-ranked ranks needs from place need at is h i j a c here = elim (cases_eq i place) [
  | inl e ↦ let f : Some j ≡ Some need = sym here ∙ (ap (slice_get needs) e ∙ at) in let f' : j ≡ need = cc in subst (IsRanked ranks) (sym f') is
  | inr ne ↦ h i j a (omega (arith, c, ne)) here
]

-- all needs of a thing are ranked
pub all-ranked : (needs : List (List ℕ)) (s : Ranking) (by : ℕ) → AreInOrder needs s → ((i j : ℕ) → place_of s by ≤ i → need_at needs by i ≡ Some j → IsRanked s.ranks.items j)
    → (k h : ℕ) → need_at needs by k ≡ Some h → IsRanked s.ranks.items h
all-ranked needs s by order late k h at = elim (cases_lt k (place_of s by)) [ inl l ↦ order.earlier by k h l at | inr l ↦ late k h l at ]

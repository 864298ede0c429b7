-- A thing waits for one of its needs.
use Rattle.std.specs.List.{count_by}
use Rattle.std.proofs.Common.{◌≡◌, ◌∙◌, ℕ, ◌<◌, ◌≤◌, Some, None, is_some, List, length, get_or, slice_get, refl, ap, sym, ◌⊎◌, inl, inr, arith}
use Rattle.std.proofs.Math.ListN.{set}
use Rattle.std.proofs.lemmas.Bool.{cases_eq, cases_lt}
use Rattle.std.proofs.lemmas.List.{get_or-set_other, get_or-set_same, length-set}
use Rattle.topological_order.specs.declared.ranking.Ranking.{Ranking}
use Rattle.topological_order.specs.Levels.{need_at, rank_at}
use Rattle.topological_order.specs.Ranking.{AreInOrder, IsIdle, IsRanked, IsSound, Waits, place_of}
use Rattle.topological_order.specs.Waiting.{AreRings, StandsAt, count_of, pushed}
use Rattle.topological_order.proofs.Rings.{pushed-cases, pushed-kept, pushed-last, pushed-long}

-- a thing waits for its first need without a rank
module _ (needs : List (List ℕ)) (old new : Ranking) (from done by place need : ℕ) (sound : IsSound needs from done (Some by) old) (within : by < length needs)
    (at : need_at needs by place ≡ Some need) (unranked : rank_at old.ranks.items need ≡ None)
    (before : (k h : ℕ) → place_of old by ≤ k → k < place → need_at needs by k ≡ Some h → IsRanked old.ranks.items h)
    (ranks : new.ranks ≡ old.ranks) (order : new.order ≡ old.order) (places : new.places.items ≡ set old.places.items by place)
    (rings : AreRings new.waiting (pushed sound.queue need by)) (long : length new.waiting.nexts.items ≡ length old.waiting.nexts.items) where
  same_rank : (i : ℕ) → rank_at new.ranks.items i ≡ rank_at old.ranks.items i
  same_rank i = ap (λ v. rank_at v.items i) ranks

  still : (i : ℕ) → IsRanked old.ranks.items i → IsRanked new.ranks.items i
  still i h = (h.0, same_rank i ∙ h.1)

  place_here : place_of new by ≡ place
  place_here = ap (λ l. get_or l by 0) places ∙ get_or-set_same old.places.items by place 0 (let a = sound.in_order.placed in omega (arith, a, within))

  place_there : (i : ℕ) → (i ≡ by → ⊥) → place_of new i ≡ place_of old i
  place_there i ne = ap (λ l. get_or l i 0) places ∙ get_or-set_other old.places.items by i place 0 ne

  idle : (by < from) × IsIdle old sound.queue by
  idle = sound.free by refl

  other : (j k i : ℕ) → StandsAt sound.queue j k i → i ≡ by → ⊥
  other j k i stands e = idle.1.1 j k (stands ∙ ap Some e)

  earlier : (i k h : ℕ) → k < place_of new i → need_at needs i k ≡ Some h → IsRanked new.ranks.items h
  earlier i k h l needed = elim (cases_eq i by) [
    | inl e ↦
        let there : need_at needs by k ≡ Some h = ap (λ n. need_at needs n k) (sym e) ∙ needed in
        let p : place_of new i ≡ place = ap (place_of new) e ∙ place_here in
        still h (elim (cases_lt k (place_of old by)) [
          | inl m ↦ sound.in_order.earlier by k h m there
          | inr m ↦ before k h m (omega (arith, l, p)) there
        ])
    | inr ne ↦ still h (sound.in_order.earlier i k h (let p = place_there i ne in omega (arith, l, p)) needed)
  ]

  in_order : AreInOrder needs new
  in_order = record {
    sized = ap (λ v. length v.items) ranks ∙ sound.in_order.sized;
    placed = ap length places ∙ (length-set old.places.items by place ∙ sound.in_order.placed);
    waited = long ∙ sound.in_order.waited;
    counted = ap (λ v. count_by is_some v.items) ranks ∙ (sound.in_order.counted ∙ ap (λ v. length v.items) (sym order));
    ordered = λ i r e. ap (λ v. slice_get v.items r) order ∙ sound.in_order.ordered i r (sym (same_rank i) ∙ e);
    ranked = λ r i e. let p = sound.in_order.ranked r i (ap (λ v. slice_get v.items r) (sym order) ∙ e) in (p.0, same_rank i ∙ p.1);
    rises = λ i r k j e f. let p = sound.in_order.rises i r k j (sym (same_rank i) ∙ e) f in (p.0, same_rank j ∙ p.1, p.2);
    earlier = earlier;
  }

  waits_new : (j k i : ℕ) → StandsAt (pushed sound.queue need by) j k i → (rank_at new.ranks.items i ≡ None) × (need_at needs i (place_of new i) ≡ Some j)
  waits_new j k i stands = elim (pushed-cases sound.queue need by j k i stands) [
    | inl p ↦
        let q = sound.waits j k i p in
        (same_rank i ∙ q.0, ap (need_at needs i) (place_there i (other j k i p)) ∙ q.1)
    | inr p ↦ (
      same_rank i ∙ (ap (rank_at old.ranks.items) p.2 ∙ idle.1.0),
      ap (λ n. need_at needs n (place_of new n)) p.2 ∙ (ap (need_at needs by) place_here ∙ (at ∙ ap Some (sym p.0))),
    )
  ]

  later_new : (i : ℕ) → from ≤ i → IsIdle new (pushed sound.queue need by) i
  later_new i l = (
    same_rank i ∙ (sound.later i l).0,
    λ j k stands. elim (pushed-cases sound.queue need by j k i stands) [
      | inl p ↦ (sound.later i l).1 j k p
      | inr p ↦ (let e = p.2 in let b = idle.0 in omega (arith, e, b, l))
    ],
  )

  each_new : (i : ℕ) → i < length needs → rank_at new.ranks.items i ≡ None → (from ≤ i) ⊎ (None ≡ Some i) ⊎ Waits new (pushed sound.queue need by) done i
  each_new i l free = elim (sound.each i l (sym (same_rank i) ∙ free)) [
    | inl low ↦ inl low
    | inr (inl e) ↦
        let same : by ≡ i = cc in
        inr (inr (need, length (sound.queue need), pushed-last sound.queue need by ∙ ap Some same, λ r f. cc (sym unranked ∙ (sym (same_rank need) ∙ f))))
    | inr (inr w) ↦ inr (inr (w.0, w.1, pushed-kept sound.queue need by w.0 w.1 i w.2, λ r f. w.3 r (sym (same_rank w.0) ∙ f)))
  ]

  pub sound-waits : IsSound needs from done None new
  sound-waits = record {
    in_order = in_order;
    queue = pushed sound.queue need by;
    rings = rings;
    waits = waits_new;
    later = later_new;
    free = λ i e. cc e;
    each = each_new;
  }

  pub kept-waits : (i r : ℕ) → rank_at old.ranks.items i ≡ Some r → (rank_at new.ranks.items i ≡ Some r) × (count_of new.waiting i ≡ count_of old.waiting i)
  kept-waits i r e = (
    same_rank i ∙ e,
    sym (rings.sized i) ∙ (pushed-long sound.queue need by i (λ s. cc (sym unranked ∙ (ap (rank_at old.ranks.items) (sym s) ∙ e))) ∙ sound.rings.sized i),
  )

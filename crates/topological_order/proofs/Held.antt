-- One that waits is held.
use Rattle.std.specs.List.{count_by}
use Rattle.std.proofs.Common.{◌≡◌, ◌∙◌, ℕ, ◌<◌, ◌≤◌, Some, None, is_some, List, length, get_or, slice_get, ap, sym, ◌⊎◌, inl, inr, arith}
use Rattle.topological_order.specs.declared.ranking.Ranking.{Ranking}
use Rattle.topological_order.specs.Levels.{need_at, rank_at}
use Rattle.topological_order.specs.Ranking.{AreInOrder, IsIdle, IsSound, Waits, place_of}
use Rattle.topological_order.specs.Waiting.{AreRings, StandsAt, popped}
use Rattle.topological_order.proofs.Shorter.{popped-kept, popped-stood}

-- the first of those that wait for a thing is held
module _ (needs : List (List ℕ)) (old new : Ranking) (done thing by : ℕ) (sound : IsSound needs (length needs) done None old)
    (stands : StandsAt sound.queue thing 0 by) (rings : AreRings new.waiting (popped sound.queue thing)) (long : length new.waiting.nexts.items ≡ length old.waiting.nexts.items)
    (ranks : new.ranks ≡ old.ranks) (order : new.order ≡ old.order) (places : new.places ≡ old.places) where
  same_rank : (i : ℕ) → rank_at new.ranks.items i ≡ rank_at old.ranks.items i
  same_rank i = ap (λ v. rank_at v.items i) ranks

  same_place : (i : ℕ) → place_of new i ≡ place_of old i
  same_place i = ap (λ v. get_or v.items i 0) places

  in_order : AreInOrder needs new
  in_order = record {
    sized = ap (λ v. length v.items) ranks ∙ sound.in_order.sized;
    placed = ap (λ v. length v.items) places ∙ sound.in_order.placed;
    waited = long ∙ sound.in_order.waited;
    counted = ap (λ v. count_by is_some v.items) ranks ∙ (sound.in_order.counted ∙ ap (λ v. length v.items) (sym order));
    ordered = λ i r e. ap (λ v. slice_get v.items r) order ∙ sound.in_order.ordered i r (sym (same_rank i) ∙ e);
    ranked = λ r i e. let p = sound.in_order.ranked r i (ap (λ v. slice_get v.items r) (sym order) ∙ e) in (p.0, same_rank i ∙ p.1);
    rises = λ i r k j e f. let p = sound.in_order.rises i r k j (sym (same_rank i) ∙ e) f in (p.0, same_rank j ∙ p.1, p.2);
    earlier = λ i k h l f. let p = sound.in_order.earlier i k h (let q = same_place i in omega (arith, l, q)) f in (p.0, same_rank h ∙ p.1);
  }

  free_new : (i : ℕ) → by ≡ i → (i < length needs) × IsIdle new (popped sound.queue thing) i
  free_new i e = (
    (let l = sound.rings.within thing 0 by stands in let n = sound.in_order.waited in omega (arith, l, n, e)),
    (
      same_rank i ∙ (ap (rank_at old.ranks.items) (sym e) ∙ (sound.waits thing 0 by stands).0),
      λ j k at.
          let (m, old_at, behind) = popped-stood sound.queue thing j k i at in
          let same = sound.rings.once j m thing 0 i old_at (stands ∙ ap Some e) in
          let a = behind same.0 in let b = same.1 in
          omega (arith, a, b),
    ),
  )

  each_new : (i : ℕ) → i < length needs → rank_at new.ranks.items i ≡ None → (length needs ≤ i) ⊎ (Some by ≡ Some i) ⊎ Waits new (popped sound.queue thing) done i
  each_new i l free = elim (sound.each i l (sym (same_rank i) ∙ free)) [
    | inl low ↦ inl low
    | inr (inl e) ↦ cc e
    | inr (inr w) ↦ elim (popped-kept sound.queue thing w.0 w.1 i w.2) [
      | inl p ↦ inr (inl (sym stands ∙ (ap (λ n. slice_get (sound.queue n) 0) (sym p.0) ∙ (ap (λ k. slice_get (sound.queue w.0) k) (sym p.1) ∙ w.2))))
      | inr p ↦ inr (inr (w.0, p.0, p.1, λ r f. w.3 r (sym (same_rank w.0) ∙ f)))
    ]
  ]

  pub sound-popped : IsSound needs (length needs) done (Some by) new
  sound-popped = record {
    in_order = in_order;
    queue = popped sound.queue thing;
    rings = rings;
    waits = λ j k i at.
        let (m, old_at, behind) = popped-stood sound.queue thing j k i at in
        let q = sound.waits j m i old_at in
        (same_rank i ∙ q.0, ap (need_at needs i) (same_place i) ∙ q.1);
    later = λ i l. (
      same_rank i ∙ (sound.later i l).0,
      λ j k at. let (m, old_at, behind) = popped-stood sound.queue thing j k i at in (sound.later i l).1 j m old_at,
    );
    free = λ i e. free_new i (let same : by ≡ i = cc in same);
    each = each_new;
  }

-- Things begin, and those that wait go on, until all is done.
use Rattle.std.specs.List.{count_by}
use Rattle.std.proofs.Common.{◌≡◌, ◌∙◌, ℕ, zero, suc, ◌+◌, ◌<◌, ◌≤◌, Option, Some, None, is_some, List, [], ◌∷◌, length, slice_get, refl, ap, sym, ◌⊎◌, inl, inr, arith}
use Rattle.std.proofs.lemmas.Bool.{cases_eq}
use Rattle.std.proofs.lemmas.List.Sums.{count_by-le-length}
use Rattle.plain_lemmas.proofs.Lists.{get-within}
use Rattle.topological_order.specs.declared.ranking.Ranking.{Ranking}
use Rattle.topological_order.specs.Levels.{AreLevels, need_at, rank_at}
use Rattle.topological_order.specs.Ranking.{IsRanked, IsSound, Waits, place_of}
use Rattle.topological_order.specs.Waiting.{AreRings, StandsAt, count_of}

past-ranks : (ranks : List (Option ℕ)) (i : ℕ) → length ranks ≤ i → rank_at ranks i ≡ None
past-ranks [] i l = refl
past-ranks (x ∷ xs) zero l = absurd (omega (arith, l))
past-ranks (x ∷ xs) (suc i) l = past-ranks xs i (omega (arith, l))

-- a thing is ranked, or it isn't
rank-cases : (ranks : List (Option ℕ)) (i : ℕ) → (rank_at ranks i ≡ None) ⊎ IsRanked ranks i
rank-cases ranks i = go (rank_at ranks i) refl
  where
    go : (o : Option ℕ) → rank_at ranks i ≡ o → (rank_at ranks i ≡ None) ⊎ IsRanked ranks i
    go None e = inl e
    go (Some r) e = inr (r, e)

-- nothing waits any more for a thing of the order
pub sound-released : (needs : List (List ℕ)) (s : Ranking) (done thing : ℕ) → IsSound needs (length needs) done None s → rank_at s.ranks.items thing ≡ Some done → count_of s.waiting thing ≡ 0
    → IsSound needs (length needs) (done + 1) None s
sound-released needs s done thing sound rank none = record {
  in_order = sound.in_order;
  queue = sound.queue;
  rings = sound.rings;
  waits = sound.waits;
  later = sound.later;
  free = sound.free;
  each = λ i l free. elim (sound.each i l free) [
    | inl low ↦ inl low
    | inr (inl e) ↦ inr (inl e)
    | inr (inr w) ↦ inr (inr (w.0, w.1, w.2, λ r f. behind w.0 w.1 i w.2 r f (w.3 r f)))
  ];
}
  where
    behind : (j k i : ℕ) → StandsAt sound.queue j k i → (r : ℕ) → rank_at s.ranks.items j ≡ Some r → done ≤ r → done + 1 ≤ r
    behind j k i at r f l = elim (cases_eq r done) [
      | inl e ↦
          let a : slice_get s.order.items done ≡ Some j = ap (slice_get s.order.items) (sym e) ∙ sound.in_order.ordered j r f in
          let b : Some j ≡ Some thing = sym a ∙ sound.in_order.ordered thing done rank in
          let same : j ≡ thing = cc in
          let m = get-within (sound.queue j) k i at in let n = sound.rings.sized j in let c = ap (count_of s.waiting) same in
          absurd (omega (arith, m, n, c, none))
      | inr ne ↦ omega (arith, l, ne)
    ]

-- nothing is left in the order
pub sound-past : (needs : List (List ℕ)) (s : Ranking) (done : ℕ) → IsSound needs (length needs) done None s → length s.order.items ≤ done → IsSound needs (length needs) (done + 1) None s
sound-past needs s done sound past = record {
  in_order = sound.in_order;
  queue = sound.queue;
  rings = sound.rings;
  waits = sound.waits;
  later = sound.later;
  free = sound.free;
  each = λ i l free. elim (sound.each i l free) [
    | inl low ↦ inl low
    | inr (inl e) ↦ inr (inl e)
    | inr (inr w) ↦ inr (inr (
      w.0,
      w.1,
      w.2,
      λ r f. absurd (let a = w.3 r f in let b = get-within s.order.items r w.0 (sound.in_order.ordered w.0 r f) in omega (arith, a, b, past)),
    ))
  ];
}

-- the next thing is held
pub sound-held : (needs : List (List ℕ)) (s : Ranking) (by : ℕ) → IsSound needs by 0 None s → IsSound needs (by + 1) 0 (Some by) s
sound-held needs s by sound = record {
  in_order = sound.in_order;
  queue = sound.queue;
  rings = sound.rings;
  waits = sound.waits;
  later = λ i l. sound.later i (omega (arith, l));
  free = λ i e. let same : by ≡ i = cc in (omega (arith, same), sound.later i (omega (arith, same)));
  each = λ i l free. elim (sound.each i l free) [
    | inl low ↦ elim (cases_eq i by) [ inl e ↦ inr (inl (ap Some (sym e))) | inr ne ↦ inl (omega (arith, low, ne)) ]
    | inr (inl e) ↦ cc e
    | inr (inr w) ↦ inr (inr w)
  ];
}

-- all things have begun
pub sound-begun : (needs : List (List ℕ)) (s : Ranking) (from : ℕ) → IsSound needs from 0 None s → length needs ≤ from → IsSound needs (length needs) 0 None s
sound-begun needs s from sound all = record {
  in_order = sound.in_order;
  queue = sound.queue;
  rings = sound.rings;
  waits = sound.waits;
  later = λ i l. (
    past-ranks s.ranks.items i (let a = sound.in_order.sized in omega (arith, a, l)),
    λ j k at. (let m = sound.rings.within j k i at in let n = sound.in_order.waited in omega (arith, m, n, l)),
  );
  free = λ i e. cc e;
  each = λ i l free. elim (sound.each i l free) [ inl low ↦ absurd (omega (arith, l, low, all)) | inr (inl e) ↦ cc e | inr (inr w) ↦ inr (inr w) ];
}

pub levels-ranked : (needs : List (List ℕ)) (s : Ranking) (done : ℕ) → IsSound needs (length needs) done None s → length needs ≤ done → AreLevels needs s.ranks.items s.order.items
levels-ranked needs s done sound past = record {
  sized = sound.in_order.sized;
  rises = sound.in_order.rises;
  ordered = sound.in_order.ordered;
  ranked = λ i r e. (sound.in_order.ranked r i e).1;
  stays = λ i l free. go i l (sound.each i l free);
}
  where
    free : (j : ℕ) → ((r : ℕ) → rank_at s.ranks.items j ≡ Some r → done ≤ r) → rank_at s.ranks.items j ≡ None
    free j late = elim (rank-cases s.ranks.items j) [
      | inl e ↦ e
      | inr (r, e) ↦ absurd (
          let a = late r e in let b = get-within s.order.items r j (sound.in_order.ordered j r e) in let c = count_by-le-length is_some s.ranks.items in let d = sound.in_order.counted in let f = sound.in_order.sized in
          omega (arith, a, b, c, d, f, past)
          )
    ]

    go : (i : ℕ) → i < length needs → (length needs ≤ i) ⊎ (None ≡ Some i) ⊎ Waits s sound.queue done i → (k : ℕ) × (j : ℕ) × (need_at needs i k ≡ Some j) × (rank_at s.ranks.items j ≡ None)
    go i l (inl low) = absurd (omega (arith, l, low))
    go i l (inr (inl e)) = cc e
    go i l (inr (inr w)) = (place_of s i, w.0, (sound.waits w.0 w.1 i w.2).1, free w.0 w.3)

pub sound-new : (needs : List (List ℕ)) (s : Ranking) → ((i : ℕ) → rank_at s.ranks.items i ≡ None) → length s.ranks.items ≡ length needs → s.order.items ≡ [] → ((i : ℕ) → place_of s i ≡ 0) → length s.places.items ≡ length needs
    → AreRings s.waiting (λ i. []) → length s.waiting.nexts.items ≡ length needs → IsSound needs 0 0 None s
sound-new needs s unranked ranked order begin placed rings waited = record {
  in_order = record {
    sized = ranked;
    placed = placed;
    waited = waited;
    counted = uncounted s.ranks.items unranked ∙ ap length (sym order);
    ordered = λ i r e. cc (sym (unranked i) ∙ e);
    ranked = λ r i e. cc (sym (ap (λ l. slice_get l r) order) ∙ e);
    rises = λ i r k j e f. cc (sym (unranked i) ∙ e);
    earlier = λ i k h l f. absurd (let b = begin i in omega (arith, l, b));
  };
  queue = λ i. [];
  rings = rings;
  waits = λ j k i at. cc at;
  later = λ i l. (unranked i, λ j k at. cc at);
  free = λ i e. cc e;
  each = λ i l free. inl (omega arith);
}
  where
    uncounted : (ranks : List (Option ℕ)) → ((i : ℕ) → rank_at ranks i ≡ None) → count_by is_some ranks ≡ 0
    uncounted [] h = refl
    uncounted (None ∷ xs) h = uncounted xs (λ i. h (suc i))
    uncounted (Some r ∷ xs) h = cc (h 0)

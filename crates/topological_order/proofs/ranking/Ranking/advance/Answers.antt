use Rattle.std.proofs.Common.{◌≡◌, ◌≤◌, ℕ, Option, List, [], Result, Ok, Err, OnOk, Some, slice_get, get_or, refl, ap, subst, sym, ◌∙◌, arith}
use Rattle.std.specs.Vec.{with_item}
use Rattle.plain_lemmas.proofs.Lists.{any-default, get-at, get-within}
use Rattle.topological_order.specs.Levels.{rank_at}
use Rattle.topological_order.specs.Ranking.{IsRanked}
use Rattle.topological_order.proofs.Ranked.{all-ranked, order-room, sound-ranked}
use Rattle.topological_order.proofs.Waited.{kept-waits, sound-waits}
use Rattle.topological_order.proofs.ranking.Ranking.advance.Goals as goal

pub rank-requires-clause-few : goal.rank-requires-clause-few
rank-requires-clause-few c =
    let (from, done, sound) = c.requires.sound in
    let l = order-room c.args.needs.now c.args.self.now c.args.thing sound.in_order c.requires.thing (sound.free c.args.thing refl).1.0 in let few = c.requires.few in
    omega (arith, l, few)

pub overflow_cast-place : goal.overflow_cast-place
overflow_cast-place c =
    let stop = c.in-Some.ensures.found in
    let l = get-within c.get-list.result.now c.in-Some.place stop.need stop.at in let few = c.get-list.ensures.short in
    omega (arith, l, few)

pub offset_bounds-list-place : goal.offset_bounds-list-place
offset_bounds-list-place c =
    let stop = c.in-Some.ensures.found in
    let l = get-within c.get-list.result.now c.in-Some.place stop.need stop.at in let few = c.get-list.ensures.short in
    omega (arith, l, few)

pub bounds-list-place : goal.bounds-list-place
bounds-list-place c = let stop = c.in-Some.ensures.found in get-within c.get-list.result.now c.in-Some.place stop.need stop.at

pub push-requires-clause-rings : goal.push-requires-clause-rings
push-requires-clause-rings c = let (from, done, sound) = c.requires.sound in (sound.queue, sound.rings, (sound.free c.args.thing refl).1.1)

need-is : (xs : List ℕ) (place need : ℕ) → slice_get xs place ≡ Some need → get_or xs place 0 ≡ need
need-is xs place need at = let e = sym (get-at xs place 0 (get-within xs place need at)) ∙ at in let e' : get_or xs place 0 ≡ need = cc in e'

pub push-requires-clause-to : goal.push-requires-clause-to
push-requires-clause-to c =
    let (from, done, sound) = c.requires.sound in
    let stop = c.in-Some.ensures.found in
    let l = c.requires.within c.args.thing c.in-Some.place stop.need (ap (λ xs. slice_get xs c.in-Some.place) (sym c.get-list.ensures.list) ∙ stop.at) in
    let n = need-is c.get-list.result.now c.in-Some.place stop.need stop.at in let w = sound.in_order.waited in
    omega (arith, l, n, w)

-- what three facts on `Ok` give
ok_four : {T E A B C D F : Type 0} (r : Result T E) → OnOk r A → OnOk r B → OnOk r C → OnOk r D → (A → B → C → D → F) → OnOk r F
ok_four (Ok x) a b c d f = f a b c d
ok_four (Err e) a b c d f = tt

late : (ranks ranks' : List (Option ℕ)) (needs needs' : List ℕ) (from from' : ℕ) → ranks ≡ ranks' → needs ≡ needs' → from ≡ from' → ((i j : ℕ) → from ≤ i → slice_get needs i ≡ Some j → IsRanked ranks j)
    → (i j : ℕ) → from' ≤ i → slice_get needs' i ≡ Some j → IsRanked ranks' j
late ranks ranks' needs needs' from from' p q e h i j l at = subst (λ r. IsRanked r j) p (h i j (omega (arith, l, e)) (ap (λ n. slice_get n i) q ∙ at))

pub returns-in-None-clause-sound : goal.returns-in-None-clause-sound
returns-in-None-clause-sound c =
    let s = c.args.self.now in
    let needs = c.args.needs.now in
    ok_four c.rank.result c.rank.ensures.ranks c.rank.ensures.order c.rank.ensures.places c.rank.ensures.waiting (λ ranks order places waiting from done sound reached.
    let placed = sound.in_order.placed in let l = c.requires.thing in
    let start = c.index.ensures ∙ any-default s.places.items c.args.thing c.index.result.now 0 (omega (arith, placed, l)) in
    sound-ranked needs s c.rank.new.self from done c.args.thing sound c.requires.thing reached
    (all-ranked needs s c.args.thing sound.in_order (late c.deref.result.now s.ranks.items c.get-list.result.now (get_or needs c.args.thing []) c.index.result.now _ c.deref.ensures.value c.get-list.ensures.list start c.in-None.ensures.none))
    ranks order places waiting)

pub returns-in-Some-clause-sound : goal.returns-in-Some-clause-sound
returns-in-Some-clause-sound c = λ from done sound reached.
    let s = c.args.self.now in
    let needs = c.args.needs.now in
    let stop = c.in-Some.ensures.found in
    let placed = sound.in_order.placed in let l = c.requires.thing in
    let start = c.index.ensures ∙ any-default s.places.items c.args.thing c.index.result.now 0 (omega (arith, placed, l)) in
    let need = need-is c.get-list.result.now c.in-Some.place stop.need stop.at in
    sound-waits needs s (record { ranks = s.ranks; order = s.order; places = with_item s.places c.args.thing c.in-Some.place; waiting = c.push.new.self }) from done c.args.thing c.in-Some.place (get_or c.get-list.result.now c.in-Some.place 0) sound c.requires.thing
    (ap (λ xs. slice_get xs c.in-Some.place) (sym c.get-list.ensures.list) ∙ (stop.at ∙ ap Some (sym need)))
    (ap (λ ranks. rank_at ranks (get_or c.get-list.result.now c.in-Some.place 0)) (sym c.deref.ensures.value) ∙ (ap (rank_at c.deref.result.now) need ∙ stop.unranked))
    (λ k h a b at. subst (λ ranks. IsRanked ranks h) c.deref.ensures.value (stop.before k h (omega (arith, a, start)) b (ap (λ xs. slice_get xs k) c.get-list.ensures.list ∙ at)))
    refl refl refl (c.push.ensures.rings sound.queue sound.rings (sound.free c.args.thing refl).1.1) c.push.ensures.count

pub returns-in-Some-clause-kept : goal.returns-in-Some-clause-kept
returns-in-Some-clause-kept c =
    let (from, done, sound) = c.requires.sound in
    let s = c.args.self.now in
    let needs = c.args.needs.now in
    let stop = c.in-Some.ensures.found in
    let placed = sound.in_order.placed in let l = c.requires.thing in
    let start = c.index.ensures ∙ any-default s.places.items c.args.thing c.index.result.now 0 (omega (arith, placed, l)) in
    let need = need-is c.get-list.result.now c.in-Some.place stop.need stop.at in
    kept-waits needs s (record { ranks = s.ranks; order = s.order; places = with_item s.places c.args.thing c.in-Some.place; waiting = c.push.new.self }) from done c.args.thing c.in-Some.place (get_or c.get-list.result.now c.in-Some.place 0) sound c.requires.thing
    (ap (λ xs. slice_get xs c.in-Some.place) (sym c.get-list.ensures.list) ∙ (stop.at ∙ ap Some (sym need)))
    (ap (λ ranks. rank_at ranks (get_or c.get-list.result.now c.in-Some.place 0)) (sym c.deref.ensures.value) ∙ (ap (rank_at c.deref.result.now) need ∙ stop.unranked))
    (λ k h a b at. subst (λ ranks. IsRanked ranks h) c.deref.ensures.value (stop.before k h (omega (arith, a, start)) b (ap (λ xs. slice_get xs k) c.get-list.ensures.list ∙ at)))
    refl refl refl (c.push.ensures.rings sound.queue sound.rings (sound.free c.args.thing refl).1.1) c.push.ensures.count

use Rattle.std.proofs.Common.{◌≡◌, Some, length, slice_get, refl, ap, sym, ◌∙◌, arith}
use Rattle.plain_lemmas.proofs.Lists.{any-default, get-at, get-within}
use Rattle.topological_order.proofs.Held.{sound-popped}
use Rattle.topological_order.proofs.Shorter.{popped-long}
use Rattle.topological_order.proofs.Steps.{sound-released}
use Rattle.topological_order.proofs.ranking.Ranking.release.Goals as goal

pub index-count-requires : goal.index-count-requires
index-count-requires c =
    let s = c.args.self.now in
    let here : slice_get s.order.items c.args.done ≡ Some c.index-thing.result.now = get-at s.order.items c.args.done _ c.requires.done ∙ ap Some (sym c.index-thing.ensures) in
    let l = (c.requires.sound.in_order.ranked c.args.done c.index-thing.result.now here).0 in let a = c.requires.sound.rings.counts in let b = c.requires.sound.in_order.waited in let d = s.waiting.counts.ok.0 in
    omega (arith, l, a, b, d)

pub loop-init : goal.loop-init
loop-init c =
    let s = c.args.self.now in
    let here : slice_get s.order.items c.args.done ≡ Some c.index-thing.result.now = get-at s.order.items c.args.done _ c.requires.done ∙ ap Some (sym c.index-thing.ensures) in
    let (l, rank) = c.requires.sound.in_order.ranked c.args.done c.index-thing.result.now here in
    let a = c.requires.sound.rings.counts in let b = c.requires.sound.in_order.waited in
    record {
      sound = c.requires.sound;
      rank = rank;
      left = (let n = sym (any-default s.waiting.counts.items c.index-thing.result.now c.index-count.result.now 0 (omega (arith, l, a, b))) ∙ sym c.index-count.ensures in omega (arith, n));
    }

pub pop-next-requires : goal.pop-next-requires
pop-next-requires c =
    let i = c.loop.invariant in
    let s = i.sound.rings.sized c.index-thing.result.now in let l = i.left in let t = c.loop-test.true in
    (i.sound.queue, i.sound.rings, omega (arith, s, l, t))

pub advance-requires-clause-thing : goal.advance-requires-clause-thing
advance-requires-clause-thing c =
    let sound = c.loop.invariant.sound in
    let l = sound.rings.within c.index-thing.result.now 0 c.pop-next.result (c.pop-next.ensures.first sound.queue sound.rings) in let n = sound.in_order.waited in
    omega (arith, l, n)

pub advance-requires-clause-sound : goal.advance-requires-clause-sound
advance-requires-clause-sound c =
    let sound = c.loop.invariant.sound in
    let s = c.loop.self in (
      length c.args.needs.now,
      c.args.done,
      sound-popped c.args.needs.now s (record { ranks = s.ranks; order = s.order; places = s.places; waiting = c.pop-next.new.self }) c.args.done c.index-thing.result.now c.pop-next.result sound
          (c.pop-next.ensures.first sound.queue sound.rings) (c.pop-next.ensures.rings sound.queue sound.rings) c.pop-next.ensures.count refl refl refl,
    )

pub loop-preserved : goal.loop-preserved
loop-preserved c =
    let i = c.loop.invariant in
    let sound = i.sound in
    let s = c.loop.self in
    let thing = c.index-thing.result.now in
    let rings = c.pop-next.ensures.rings sound.queue sound.rings in
    let (rank, count) = c.in_ok-advance.ensures.kept thing c.args.done i.rank in
    record {
      sound = c.in_ok-advance.ensures.sound (length c.args.needs.now) c.args.done
          (sound-popped c.args.needs.now s (record { ranks = s.ranks; order = s.order; places = s.places; waiting = c.pop-next.new.self }) c.args.done thing c.pop-next.result sound
          (c.pop-next.ensures.first sound.queue sound.rings) rings c.pop-next.ensures.count refl refl refl)
          (let l = get-within s.order.items c.args.done thing (sound.in_order.ordered thing c.args.done i.rank) in omega (arith, l));
      rank = rank;
      left = (
          let a = rings.sized thing in let b = popped-long sound.queue thing in let d = sound.rings.sized thing in let l = i.left in let t = c.loop-test.true in
          omega (arith, a, b, count, d, l, t)
          );
    }

pub returns : goal.returns
returns c =
    let i = c.loop.invariant in
    let l = i.left in let t = c.loop-test.false in
    sound-released c.args.needs.now c.loop.self c.args.done c.index-thing.result.now i.sound i.rank (omega (arith, l, t))

use Rattle.std.proofs.Common.{◌+◌, None, length, subst, sym, ◌∙◌, arith}
use Rattle.topological_order.specs.Ranking.{IsSound}
use Rattle.topological_order.proofs.Steps.{levels-ranked, sound-begun, sound-held, sound-new, sound-past}
use Rattle.topological_order.proofs.ranking.levelize.Goals as goal
use Rattle.topological_order.proofs.ranking.levelize.Goals.{then-done-len+in_ok-release, else-done-len}

pub loop-thing-init : goal.loop-thing-init
loop-thing-init c =
    let new = c.in_ok-ranking.ensures in
    let n = c.len-count.ensures.len in
    sound-new c.args.needs.now c.in_ok-ranking.ranking new.ranks (new.ranked ∙ n) new.order new.places (new.placed ∙ n) new.waiting (new.waited ∙ n)

pub advance-requires-clause-sound : goal.advance-requires-clause-sound
advance-requires-clause-sound c = (c.loop-thing.thing + 1, 0, sound-held c.args.needs.now c.loop-thing.ranking c.loop-thing.thing c.loop-thing.invariant)

pub loop-thing-preserved : goal.loop-thing-preserved
loop-thing-preserved c =
    c.in_ok-advance.ensures.sound (c.loop-thing.thing + 1) 0 (sound-held c.args.needs.now c.loop-thing.ranking c.loop-thing.thing c.loop-thing.invariant) (omega arith)

pub loop-done-init : goal.loop-done-init
loop-done-init c =
    let n = c.len-count.ensures.len in let l = c.loop-thing-test.false in
    sound-begun c.args.needs.now c.loop-thing.ranking c.loop-thing.thing c.loop-thing.invariant (omega (arith, n, l))

pub loop-done-preserved : goal.loop-done-preserved
loop-done-preserved c =
    let needs = c.args.needs.now in
    elim c.if-done-len.branch [
      | then-done-len+in_ok-release w ↦ subst (IsSound needs (length needs) (c.loop-done.done + 1) None) (sym w.ranking-is) w.in_ok-release.ensures
      | else-done-len w ↦ subst (IsSound needs (length needs) (c.loop-done.done + 1) None) (sym w.ranking-is) (sound-past needs c.loop-done.ranking c.loop-done.done c.loop-done.invariant (omega arith))
    ]

pub returns : goal.returns
returns c =
    let n = c.len-count.ensures.len in let l = c.loop-done-test.false in
    levels-ranked c.args.needs.now c.loop-done.ranking c.loop-done.done c.loop-done.invariant (omega (arith, n, l))

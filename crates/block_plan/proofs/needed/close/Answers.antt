use Rattle.std.proofs.Common.{◌≡◌, ◌-◌, ◌+◌, ◌<◌, ◌∙◌, length, sym, ap, subst, arith}
use Rattle.block_plan.proofs.Needing.{ClosedFrom, is_closed, one_closed, one_left}
use Rattle.block_plan.proofs.Ordering.{here_at}
use Rattle.block_plan.proofs.needed.close.Goals as goal

pub loop-at-preserved-then-is_wanted : goal.loop-at-preserved-then-is_wanted
loop-at-preserved-then-is_wanted c =
    let b = c.args.block.now in
    let e : c.deref-order.result.now ≡ b.order = c.deref-order.ensures.value ∙ ap (λ b. b.order) c.block.view_is in
    let p = c.loop-at.at - 1 in
    let next : c.loop-at.at ≡ p + 1 = omega (arith, c.loop-at-test.true) in
    let low : p < length c.deref-order.result.now = omega (arith, c.loop-at-test.true, c.loop-at.auto.at) in
    one_closed b c.args.wanted.now c.loop-at.wanted c.want_refs.new.wanted p _ c.requires.sound c.requires.room (here_at b c.deref-order.result.now p _ e low) (subst (ClosedFrom b c.args.wanted.now c.loop-at.wanted) next c.loop-at.invariant) c.want_refs.ensures

pub loop-at-preserved : goal.loop-at-preserved
loop-at-preserved c =
    let b = c.args.block.now in
    let e : c.deref-order.result.now ≡ b.order = c.deref-order.ensures.value ∙ ap (λ b. b.order) c.block.view_is in
    let p = c.loop-at.at - 1 in
    let next : c.loop-at.at ≡ p + 1 = omega (arith, c.loop-at-test.true) in
    let low : p < length c.deref-order.result.now = omega (arith, c.loop-at-test.true, c.loop-at.auto.at) in
    one_left b c.args.wanted.now c.loop-at.wanted p _ (here_at b c.deref-order.result.now p _ e low) (sym c.is_wanted.ensures ∙ c.if-is_wanted.false) (subst (ClosedFrom b c.args.wanted.now c.loop-at.wanted) next c.loop-at.invariant)

pub returns-clause-closed : goal.returns-clause-closed
returns-clause-closed c =
    let zero : c.loop-at.at ≡ 0 = omega (arith, c.loop-at-test.false) in
    is_closed c.args.block.now c.args.wanted.now c.loop-at.wanted c.requires.sound (subst (ClosedFrom c.args.block.now c.args.wanted.now c.loop-at.wanted) zero c.loop-at.invariant)

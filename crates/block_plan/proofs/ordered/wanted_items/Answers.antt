use Rattle.std.proofs.Common.{◌≡◌, ◌+◌, ◌≤◌, ◌∙◌, ap, length, subst, sym}
use Rattle.block_plan.proofs.WantedListing.{ListedTo, all_listed, one_listed}
use Rattle.block_plan.proofs.Ordering.{here_at}
use Rattle.block_plan.proofs.ordered.wanted_items.Goals as goal

pub loop-item-preserved : goal.loop-item-preserved
loop-item-preserved c =
    let b = c.args.block.now in
    let w = c.args.wanted.now in
    let e : c.deref-item-items.result.now ≡ b.order = c.deref-item-items.ensures.value ∙ ap (λ b. b.order) c.block.view_is in
    subst (λ is. ListedTo b w is (c.loop-item.item-index + 1)) (sym c.in_ok-push.ensures.items)
    (one_listed b w c.loop-item.list.items c.loop-item.item-index _ c.requires.sound c.requires.closed (here_at b c.deref-item-items.result.now c.loop-item.item-index _ e c.loop-item-test.true) (sym c.is_wanted.ensures ∙ c.if-not-is_wanted.false) c.loop-item.invariant)

pub returns : goal.returns
returns c =
    let b = c.args.block.now in
    let e : c.deref-item-items.result.now ≡ b.order = c.deref-item-items.ensures.value ∙ ap (λ b. b.order) c.block.view_is in
    let past : length c.deref-item-items.result.now ≤ c.loop-item.item-index = c.loop-item-test.false in
    all_listed b c.args.wanted.now c.loop-item.list.items c.loop-item.item-index c.requires.sound (subst (λ xs. length xs ≤ c.loop-item.item-index) e past) c.loop-item.invariant

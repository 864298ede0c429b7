use Rattle.std.proofs.Common.{subst}
use Rattle.rdl_assignments.proofs.SteadyEntries.{IsAlikeItem, all_more, all_taken, enums_alike}
use Rattle.rdl_assignments.proofs.varying.entries_vary.Goals as goal

pub loop-item-preserved : goal.loop-item-preserved
loop-item-preserved c = λ v shown. all_more (IsAlikeItem v) c.args.items.now c.loop-item.item-index c.item-item.result c.loop-item-test.true (c.loop-item.invariant v shown) (subst (IsAlikeItem v) c.item-item.is (c.item_varies.ensures c.if-item_varies.false v shown))

pub returns : goal.returns
returns c = λ q v shown b d e f g k. enums_alike v c.args.text.now.same_enums b d c.args.items.now (all_taken (IsAlikeItem v) c.args.items.now c.loop-item.item-index c.loop-item-test.false (c.loop-item.invariant v shown)) e f g k

use Rattle.std.proofs.Common.{refl}
use Rattle.rdl_check.proofs.Made.{made}
use Rattle.rdl_check.proofs.block.describe.Goals as goal

pub returns : goal.returns
returns c =
    let e = c.args.elab.now in
    let made_ = c.in_ok-lists.ensures in
    let lists = made_.lists in
    let words = c.in_ok-words.ensures in
    made e _ c.requires.clear lists.signals_ lists.fields_ lists.views_ lists.regs_ words.reads words.writes c.in_ok-name.ensures refl
    made_.order c.order_has_all_items.ensures c.order_is_the_blocks.ensures

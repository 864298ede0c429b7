use Rattle.gen_clock.proofs.Stacking.{laid_under}
use Rattle.gen_clock.proofs.stacks.under.Goals as goal

pub returns-clause-laid : goal.returns-clause-laid
returns-clause-laid c =
    laid_under c.args.net.now c.placed.new.net c.joined.new.net c.args.stack c.args.bits c.in_ok-above.above c.in_ok-all.all c.args.low c.args.top c.in_ok-above.ensures.older c.in_ok-all.ensures.older
    c.requires.stack c.requires.bits c.requires.order c.requires.apart c.in_ok-above.ensures.node c.in_ok-all.ensures.node

use Rattle.gen_clock.proofs.Stacking.{laid_over}
use Rattle.gen_clock.proofs.stacks.over.Goals as goal

pub returns-clause-laid : goal.returns-clause-laid
returns-clause-laid c =
    laid_over c.args.net.now c.widened.new.net c.joined.new.net c.args.stack c.args.bits c.in_ok-below.below c.in_ok-all.all c.args.low c.args.top c.in_ok-below.ensures.older c.in_ok-all.ensures.older
    c.requires.stack c.requires.bits c.requires.order c.requires.apart c.in_ok-below.ensures.node c.in_ok-all.ensures.node

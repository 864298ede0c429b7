use Rattle.std.proofs.Common.{arith}
use Rattle.rtl_net.specs.Net.{width_in}
use Rattle.rtl_net.proofs.Nets.{Stands-grows}
use Rattle.gen_clock.proofs.Stacking.{laid_among}
use Rattle.gen_clock.proofs.stacks.among.Goals as goal

pub returns-clause-laid : goal.returns-clause-laid
returns-clause-laid c =
    let some = c.requires.stack.some in
    let within = c.requires.within in
    laid_among c.placed.new.net c.placed-2.new.net c.merged.new.net c.args.stack c.args.bits c.in_ok-before.before c.in_ok-shown.shown c.in_ok-all.all c.args.low c.args.width
    (width_in c.placed-2.new.net c.in_ok-before.before) c.in_ok-shown.ensures.older c.in_ok-all.ensures.older (omega arith) c.in_ok-before.ensures.node c.in_ok-shown.ensures.node c.in_ok-all.ensures.node
    (Stands-grows c.placed.new.net c.placed-2.new.net c.in_ok-before.before c.args.width c.in_ok-shown.ensures.older c.in_ok-before.ensures.node.stands).width

use Rattle.rdl_assignments.proofs.Counted.{copies_more, copies_none}
use Rattle.rdl_assignments.proofs.defaults.fill.Goals as goal

pub loop-init : goal.loop-init
loop-init c = copies_none c.args.positions.now.items c.args.position

pub loop-preserved : goal.loop-preserved
loop-preserved c = copies_more c.args.positions.now.items c.loop.positions.items c.push.new.self.items c.args.position c.loop.counter c.in_ok-push.ensures.items c.loop.invariant

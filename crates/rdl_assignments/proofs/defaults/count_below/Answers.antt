use Rattle.rdl_assignments.proofs.Counted.{below_all}
use Rattle.rdl_assignments.proofs.defaults.count_below.Goals as goal

pub returns : goal.returns
returns c = below_all c.args.positions.now c.loop-one.one-index c.args.position c.loop-one.count c.loop-one-test.false c.loop-one.invariant.counted

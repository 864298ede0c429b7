use Rattle.std.proofs.Common.{◌/◌}
use Rattle.sim_lanes.proofs.Marking.{marked_kept, marked_there}
use Rattle.sim_lanes.proofs.marks.mark.Goals as goal

pub returns-then-word-due-clause-kept : goal.returns-then-word-due-clause-kept
returns-then-word-due-clause-kept c = λ k none. marked_kept c.args.due.now (c.args.operation / 64) _ k c.if-word-due.true none

pub returns-then-word-due-clause-marked : goal.returns-then-word-due-clause-marked
returns-then-word-due-clause-marked c = λ low. marked_there c.args.due.now c.args.operation c.if-word-due.true

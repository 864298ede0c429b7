use Rattle.sim_lanes.proofs.Marking.{unmarked_other}
use Rattle.sim_lanes.proofs.marks.unmark.Goals as goal

pub returns : goal.returns
returns c = λ k other. unmarked_other c.args.due.now c.args.word c.args.bit k c.requires.word c.requires.bit other

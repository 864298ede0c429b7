use Rattle.stim_csv.proofs.Cutting.{row_of}
use Rattle.stim_csv.proofs.stimulus.Stimulus.width.Goals as goal

pub returns : goal.returns
returns c = λ k l. (row_of c.self.inside.width c.self.inside.rows c.self.inside.vectors c.args.self.now k c.self.view_is l c.self.invariant).2

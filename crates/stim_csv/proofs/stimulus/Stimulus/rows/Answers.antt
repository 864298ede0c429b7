use Rattle.std.proofs.Common.{length, ap, sym, ◌∙◌}
use Rattle.stim_csv.proofs.Cutting.{length-cut}
use Rattle.stim_csv.proofs.stimulus.Stimulus.rows.Goals as goal

pub returns : goal.returns
returns c = sym (length-cut c.self.inside.width c.self.inside.rows c.self.inside.vectors) ∙ ap length c.self.view_is

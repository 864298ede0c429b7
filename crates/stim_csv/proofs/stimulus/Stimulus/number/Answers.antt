use Rattle.std.proofs.Common.{◌∙◌}
use Rattle.stim_csv.proofs.Cutting.{number_there}
use Rattle.stim_csv.proofs.stimulus.Stimulus.number.Goals as goal

pub get-requires : goal.get-requires
get-requires c = (number_there c.self.inside.width c.self.inside.rows c.self.inside.vectors c.args.self.now c.args.at c.args.pin c.self.view_is c.requires.row c.self.invariant c.requires.pin).0

pub returns : goal.returns
returns c = c.get.ensures ∙ (number_there c.self.inside.width c.self.inside.rows c.self.inside.vectors c.args.self.now c.args.at c.args.pin c.self.view_is c.requires.row c.self.invariant c.requires.pin).1

use Rattle.std.proofs.Common.{◌∙◌, ap, option_and_then}
use Rattle.rdl_layers.specs.Forms.{side}
use Rattle.rdl_assignments.proofs.paths.side_of.Goals as goal

pub returns-in-Some-clause-outcome : goal.returns-in-Some-clause-outcome
returns-in-Some-clause-outcome c = λ scope. c.side.ensures.outcome scope ∙ ap (option_and_then side) c.in-Some.ensures

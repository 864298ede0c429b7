use Rattle.std.proofs.Common.{◌∙◌}
use Rattle.rdl_assignments.proofs.Numbers.{then_passes}
use Rattle.rdl_assignments.proofs.meaning.ref_in.Goals as goal

pub returns-in-None-clause-outcome : goal.returns-in-None-clause-outcome
returns-in-None-clause-outcome c = λ scope shown. c.path_in.ensures.outcome scope shown ∙ then_passes _ _ (c.in-None.ensures _ shown)

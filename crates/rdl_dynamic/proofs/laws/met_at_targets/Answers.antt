use Rattle.rdl_dynamic.proofs.Meeting.{at_targets}
use Rattle.rdl_dynamic.proofs.laws.met_at_targets.Goals as goal

pub returns : goal.returns
returns c = λ f b d earlier. at_targets f b d earlier

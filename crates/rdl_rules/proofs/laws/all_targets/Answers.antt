use Rattle.rdl_rules.proofs.Targets.{all_judged}
use Rattle.rdl_rules.proofs.laws.all_targets.Goals as goal

pub returns : goal.returns
returns c = all_judged

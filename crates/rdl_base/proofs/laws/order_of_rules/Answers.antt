use Rattle.rdl_base.proofs.RuleOrder.{derived}
use Rattle.rdl_base.proofs.laws.order_of_rules.Goals as goal

pub returns : goal.returns
returns c = derived

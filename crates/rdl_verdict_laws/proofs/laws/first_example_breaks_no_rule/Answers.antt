use Rattle.rdl_verdict_laws.proofs.FirstExample.{breaks_no_rule}
use Rattle.rdl_verdict_laws.proofs.laws.first_example_breaks_no_rule.Goals as goal

pub returns : goal.returns
returns c = breaks_no_rule

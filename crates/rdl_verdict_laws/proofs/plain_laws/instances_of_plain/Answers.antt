use Rattle.rdl_verdict_laws.proofs.Phase3.{failures3-plain}
use Rattle.rdl_verdict_laws.proofs.plain_laws.instances_of_plain.Goals as goal

pub returns : goal.returns
returns c = failures3-plain

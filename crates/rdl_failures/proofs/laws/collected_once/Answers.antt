use Rattle.rdl_failures.proofs.Sets.{collected}
use Rattle.rdl_failures.proofs.laws.collected_once.Goals as goal

pub returns : goal.returns
returns c = collected

use Rattle.rdl_verdict_laws.proofs.Phase4.{failures4-plain}
use Rattle.rdl_verdict_laws.proofs.plain_laws.settings_of_plain.Goals as goal

pub returns : goal.returns
returns c = failures4-plain

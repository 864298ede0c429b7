use Rattle.rdl_verdict_laws.proofs.Rules.{failures_ab-plain}
use Rattle.rdl_verdict_laws.proofs.plain_laws.places_of_plain.Goals as goal

pub returns : goal.returns
returns c = failures_ab-plain

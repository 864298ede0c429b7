use Rattle.rdl_refs.proofs.Listed.{all_judged}
use Rattle.rdl_refs.proofs.laws.all_references.Goals as goal

pub returns : goal.returns
returns c = all_judged

use Rattle.rdl_verdict.proofs.OneList.{one-verdict}
use Rattle.rdl_verdict.proofs.laws.one_list.Goals as goal

pub returns : goal.returns
returns c = one-verdict

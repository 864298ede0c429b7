use Rattle.rdl_values.proofs.Sorted.{none_fails}
use Rattle.rdl_values.proofs.laws.none_fails.Goals as goal

pub returns : goal.returns
returns c = none_fails

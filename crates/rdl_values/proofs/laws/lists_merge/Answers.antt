use Rattle.rdl_values.proofs.Sorted.{merged}
use Rattle.rdl_values.proofs.laws.lists_merge.Goals as goal

pub returns : goal.returns
returns c = merged

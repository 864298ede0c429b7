use Rattle.rdl_tree.proofs.Tying.{derived_fits}
use Rattle.rdl_tree.proofs.laws.derived_is_source.Goals as goal

pub returns : goal.returns
returns c = derived_fits

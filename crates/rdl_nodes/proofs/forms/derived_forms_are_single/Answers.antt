use Rattle.rdl_nodes.proofs.Derived.{derived_single}
use Rattle.rdl_nodes.proofs.forms.derived_forms_are_single.Goals as goal

pub returns : goal.returns
returns c = derived_single

use Rattle.std.proofs.Common.{refl}
use Rattle.rdl_props.specs.Table as table
use Rattle.rdl_props.proofs.references.reference_props.Goals as goal

pub returns : goal.returns
unfolding table.reference_props
returns c = refl

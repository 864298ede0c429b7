use Rattle.rdl_values.proofs.LookUps.{same_values}
use Rattle.rdl_values.proofs.laws.values_by_look_ups.Goals as goal

pub returns : goal.returns
returns c = same_values

use Rattle.rdl_values.proofs.Count.{measured-few, measured-many}
use Rattle.rdl_values.proofs.laws.over_the_count.Goals as goal

pub returns-clause-few : goal.returns-clause-few
returns-clause-few c = measured-few

pub returns-clause-many : goal.returns-clause-many
returns-clause-many c = measured-many

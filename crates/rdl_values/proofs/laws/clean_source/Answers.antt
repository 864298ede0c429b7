use Rattle.rdl_values.proofs.Clean.{nodes_nil, none_over, root_nil, uses_clean}
use Rattle.rdl_values.proofs.laws.clean_source.Goals as goal

pub returns-clause-root_ : goal.returns-clause-root_
returns-clause-root_ c = root_nil

pub returns-clause-nodes_ : goal.returns-clause-nodes_
returns-clause-nodes_ c = nodes_nil

pub returns-clause-uses : goal.returns-clause-uses
returns-clause-uses c = uses_clean

pub returns-clause-few : goal.returns-clause-few
returns-clause-few c = none_over

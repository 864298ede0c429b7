use Rattle.rdl_values.proofs.Numbered.{counted, numbered}
use Rattle.rdl_values.proofs.laws.nodes_are_numbered.Goals as goal

pub returns-clause-count : goal.returns-clause-count
returns-clause-count c = counted

pub returns-clause-numbers : goal.returns-clause-numbers
returns-clause-numbers c = numbered

use Rattle.rdl_values.proofs.Clean.{by_top_name, same_top}
use Rattle.rdl_values.proofs.laws.name_decides_the_top.Goals as goal

pub returns-clause-top : goal.returns-clause-top
returns-clause-top c = same_top

pub returns-clause-tree : goal.returns-clause-tree
returns-clause-tree c = by_top_name

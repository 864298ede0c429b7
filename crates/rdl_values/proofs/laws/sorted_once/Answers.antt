use Rattle.rdl_values.proofs.Sorted.{in_order-is, sorted_once}
use Rattle.rdl_values.proofs.laws.sorted_once.Goals as goal

pub returns-clause-dropped : goal.returns-clause-dropped
returns-clause-dropped c = sorted_once

pub returns-clause-inserted : goal.returns-clause-inserted
returns-clause-inserted c = in_order-is

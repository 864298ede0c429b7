use Rattle.rdl_values.proofs.Steps.{read_passed, untouched_passed}
use Rattle.rdl_values.proofs.overlaid.untouched_are_passed.Goals as goal

pub returns-clause-plain : goal.returns-clause-plain
returns-clause-plain c = untouched_passed

pub returns-clause-read_ : goal.returns-clause-read_
returns-clause-read_ c = read_passed

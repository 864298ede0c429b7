use Rattle.rdl_failures.proofs.Sets.{held, kept, again}
use Rattle.rdl_failures.proofs.laws.found_again.Goals as goal

pub returns-clause-put : goal.returns-clause-put
returns-clause-put c = held

pub returns-clause-kept : goal.returns-clause-kept
returns-clause-kept c = kept

pub returns-clause-same : goal.returns-clause-same
returns-clause-same c = again

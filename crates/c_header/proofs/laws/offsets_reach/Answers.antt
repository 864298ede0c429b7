use Rattle.c_header.proofs.Reached.{read-reached, write-reached}
use Rattle.c_header.proofs.laws.offsets_reach.Goals as goal

pub returns-clause-read : goal.returns-clause-read
returns-clause-read c = read-reached

pub returns-clause-written : goal.returns-clause-written
returns-clause-written c = write-reached

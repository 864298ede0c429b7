use Rattle.rdl_addr.proofs.Fielding.{all-bits, same-faults}
use Rattle.rdl_addr.proofs.laws.fields_have_bits.Goals as goal

pub returns-clause-bits : goal.returns-clause-bits
returns-clause-bits c = all-bits 0

pub returns-clause-failures : goal.returns-clause-failures
returns-clause-failures c = same-faults

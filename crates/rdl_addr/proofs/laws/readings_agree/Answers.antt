use Rattle.rdl_addr.proofs.Read.{one-mode, one-part, one-side}
use Rattle.rdl_addr.proofs.laws.readings_agree.Goals as goal

pub returns-clause-side : goal.returns-clause-side
returns-clause-side c = one-side

pub returns-clause-mode : goal.returns-clause-mode
returns-clause-mode c = one-mode

pub returns-clause-part : goal.returns-clause-part
returns-clause-part c = one-part

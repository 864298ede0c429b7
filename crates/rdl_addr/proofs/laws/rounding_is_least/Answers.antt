use Rattle.rdl_layout.proofs.Least.{multiple_is_least, power_is_least}
use Rattle.rdl_addr.proofs.laws.rounding_is_least.Goals as goal

pub returns-clause-multiple : goal.returns-clause-multiple
returns-clause-multiple c = multiple_is_least

pub returns-clause-power : goal.returns-clause-power
returns-clause-power c = power_is_least

use Rattle.std.proofs.Common.{arith}
use Rattle.rdl_layout.proofs.Powers.{up-given, up-some}
use Rattle.rdl_layout.proofs.rounding.up.Goals as goal

pub returns-clause-value : goal.returns-clause-value
returns-clause-value c = let t = c.checked_next_power_of_two.type_inv in up-given c.args.number c.checked_next_power_of_two.result (λ p e. grind arith) c.checked_next_power_of_two.ensures

pub returns-clause-positive : goal.returns-clause-positive
returns-clause-positive c = up-some c.args.number c.checked_next_power_of_two.result c.checked_next_power_of_two.ensures

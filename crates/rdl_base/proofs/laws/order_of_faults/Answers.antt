use Rattle.std.proofs.Common.{ap}
use Rattle.std.specs.Ordering.{nat_cmp, ordering_then}
use Rattle.rdl_base.proofs.RuleOrder.{derived}
use Rattle.rdl_base.proofs.laws.order_of_faults.Goals as goal

pub returns : goal.returns
returns c = λ a b. ap (ordering_then (nat_cmp a.place.0 b.place.0)) (derived a.rule b.rule)

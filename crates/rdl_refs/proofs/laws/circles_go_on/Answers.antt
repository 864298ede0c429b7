use Rattle.rdl_refs.proofs.Circles.{circle_goes_on, order_ends}
use Rattle.rdl_refs.proofs.laws.circles_go_on.Goals as goal

pub returns-clause-circle : goal.returns-clause-circle
returns-clause-circle c = circle_goes_on

pub returns-clause-order : goal.returns-clause-order
returns-clause-order c = order_ends

use Rattle.std.proofs.Common.{subst}
use Rattle.rdl_check.specs.Trees.{AreInTurn}
use Rattle.rdl_check.proofs.block.ordered_lists.Goals as goal

pub returns-clause-order : goal.returns-clause-order
returns-clause-order c = subst (λ t. AreInTurn t c.in_ok-order.order) c.requires.props c.in_ok-order.ensures

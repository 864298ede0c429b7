use Rattle.rdl_tree.proofs.Places.{derived_in_order, derived_words}
use Rattle.rdl_tree.proofs.laws.derived_in_order.Goals as goal

pub returns-clause-order : goal.returns-clause-order
returns-clause-order c = derived_in_order

pub returns-clause-words : goal.returns-clause-words
returns-clause-words c = derived_words

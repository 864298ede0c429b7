use Rattle.block_plan.proofs.WantedListing.{ListedTo}
use Rattle.block_plan.proofs.ordered.wanted_items.Given as goal

abbrev pub invariant-loop-item : goal.invariant-loop-item
invariant-loop-item l = ListedTo l.block l.wanted l.list.items l.item-index

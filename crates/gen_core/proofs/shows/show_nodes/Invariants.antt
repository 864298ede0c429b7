use Rattle.gen_core.proofs.Showing.{ShownTo}
use Rattle.gen_core.proofs.shows.show_nodes.Given as goal

abbrev pub invariant-loop-outlet : goal.invariant-loop-outlet
invariant-loop-outlet l = ShownTo l.base.block.now l.fn.net l.net l.items l.outlet-index

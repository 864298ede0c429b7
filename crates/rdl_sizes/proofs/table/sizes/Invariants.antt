use Rattle.rdl_sizes.specs.Sized.{AreSizesFrom}
use Rattle.rdl_sizes.proofs.table.sizes.Given as goal

abbrev pub invariant-loop-at : goal.invariant-loop-at
invariant-loop-at l = AreSizesFrom l.props l.at l.sizes

use Rattle.std.proofs.Common.{◌≡◌, length}
use Rattle.rdl_sizes.specs.Modes.{AreModes}
use Rattle.rdl_sizes.proofs.modes.modes_of.Given as goal

abbrev pub invariant-loop-row : goal.invariant-loop-row
invariant-loop-row l = record {
  many : length l.modes.items ≡ l.row-index;
  all : AreModes l.props l.modes.items;
}

use Rattle.std.proofs.Common.{take}
use Rattle.rdl_targets.proofs.Contained.{AreHeld}
use Rattle.rdl_targets.proofs.contents.contents_of.Given as goal

abbrev pub invariant-loop-row : goal.invariant-loop-row
invariant-loop-row l = AreHeld (take l.row-index l.rows) l.nodes.items

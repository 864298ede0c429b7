use Rattle.std.proofs.Common.{◌≡◌, ◌≤◌, take}
use Rattle.rdl_block_numbers.specs.Ranks.{marked}
use Rattle.rdl_block_numbers.proofs.ranks.marked.Given as goal

abbrev pub invariant-loop-mark : goal.invariant-loop-mark
invariant-loop-mark l = (l.count ≡ marked (take l.mark-index l.marks)) × (l.count ≤ l.mark-index)

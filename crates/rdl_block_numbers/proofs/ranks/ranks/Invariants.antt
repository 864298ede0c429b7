use Rattle.std.proofs.Common.{◌≡◌, take}
use Rattle.rdl_block_numbers.specs.Ranks.{AreRanksTo, marked}
use Rattle.rdl_block_numbers.proofs.ranks.ranks.Given as goal

abbrev pub invariant-loop-mark : goal.invariant-loop-mark
invariant-loop-mark l = (l.before ≡ marked (take l.mark-index l.marks)) × AreRanksTo l.marks l.mark-index l.ranks.items

use Rattle.std.proofs.Common.{◌≡◌, map, take}
use Rattle.rdl_values.specs.Lineages.{lineages_of}
use Rattle.rdl_block_numbers.specs.Listed as lists
use Rattle.rdl_block_numbers.proofs.listed.marks.Given as goal

abbrev pub invariant-loop-at : goal.invariant-loop-at
invariant-loop-at l = l.marks.items ≡ map (lists.is_listed l.listing) (take l.at (lineages_of l.elab))

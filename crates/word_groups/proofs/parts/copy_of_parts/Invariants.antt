use Rattle.std.proofs.Common.{◌≡◌, take}
use Rattle.word_groups.proofs.parts.copy_of_parts.Given as goal

abbrev pub invariant-loop-part : goal.invariant-loop-part
invariant-loop-part l = l.items.items ≡ take l.part-index l.parts

use Rattle.std.proofs.Common.{take}
use Rattle.std.specs.List.{AllByRecursion}
use Rattle.rdl_bodies.specs.Steady.{IsFixed}
use Rattle.rdl_bodies.proofs.steady.are_fixed.Given as goal

abbrev pub invariant-loop-item : goal.invariant-loop-item
invariant-loop-item l = AllByRecursion IsFixed (take l.item-index l.items)

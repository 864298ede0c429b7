use Rattle.std.proofs.Common.{take}
use Rattle.std.specs.List.{AllByRecursion}
use Rattle.rdl_assignments.proofs.Unassigned.{FailsNowhere}
use Rattle.rdl_assignments.proofs.enums.some_have.Given as goal

abbrev pub invariant-loop-item : goal.invariant-loop-item
invariant-loop-item l = AllByRecursion FailsNowhere (take l.item-index l.items)

use Rattle.std.proofs.Common.{◌≡◌, ◌++◌, map, take}
use Rattle.block_plan.specs.Outlets.{outlet_seen, shown_outlets}
use Rattle.block_plan.proofs.outlets.push_shown.Given as goal

abbrev pub invariant-loop-item : goal.invariant-loop-item
invariant-loop-item l = map outlet_seen l.out.items ≡ map outlet_seen l.initial.out.items ++ shown_outlets l.number l.path (take l.item-index l.shown)

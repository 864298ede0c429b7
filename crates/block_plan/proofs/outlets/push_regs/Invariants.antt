use Rattle.std.proofs.Common.{◌≡◌, ◌++◌, map, take}
use Rattle.std.specs.List.{flat_map, enumerate_from}
use Rattle.rb_model.specs.Ports.{reg_outlets}
use Rattle.block_plan.specs.Outlets.{outlet_seen}
use Rattle.block_plan.proofs.outlets.push_regs.Given as goal

abbrev pub invariant-loop-index : goal.invariant-loop-index
invariant-loop-index l = map outlet_seen l.out.items ≡ map outlet_seen l.initial.out.items ++ flat_map reg_outlets (enumerate_from 0 (take l.index l.regs))

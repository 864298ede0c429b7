use Rattle.std.proofs.Common.{◌≡◌, ◌++◌, map, take}
use Rattle.std.specs.List.{flat_map, enumerate_from}
use Rattle.rb_model.specs.Ports.{output, reg_outlets}
use Rattle.rb_model.proofs.port_list.push_regs.Given as goal

abbrev pub invariant-loop-reg : goal.invariant-loop-reg
invariant-loop-reg l = l.out.items ≡ l.initial.out.items ++ map output (flat_map reg_outlets (enumerate_from 0 (take l.reg-index l.regs)))

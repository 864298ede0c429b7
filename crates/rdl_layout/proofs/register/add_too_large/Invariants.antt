use Rattle.std.proofs.Common.{◌≡◌, ◌++◌, take, flat_map}
use Rattle.rdl_layout.specs.Registers.{too_large}
use Rattle.rdl_layout.proofs.register.add_too_large.Given as goal

abbrev pub invariant-loop-register : goal.invariant-loop-register
invariant-loop-register l = l.faults.items ≡ l.initial.faults.items ++ flat_map too_large (take l.register-index l.registers)

use Rattle.std.proofs.Common.{◌≡◌, take}
use Rattle.v_design.specs.Design.{registers_among}
use Rattle.v_reader.proofs.design.registers.Given as goal

abbrev pub invariant-loop-decl : goal.invariant-loop-decl
invariant-loop-decl l = l.pins.items ≡ registers_among (take l.decl-index l.decls)

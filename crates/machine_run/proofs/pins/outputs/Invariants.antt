use Rattle.std.proofs.Common.{◌≡◌, take}
use Rattle.v_design.specs.Design.{outputs_among}
use Rattle.machine_run.proofs.pins.outputs.Given as goal

abbrev pub invariant-loop-port : goal.invariant-loop-port
invariant-loop-port l = l.pins.items ≡ outputs_among (take l.port-index l.ports)

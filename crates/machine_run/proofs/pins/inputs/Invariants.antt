use Rattle.std.proofs.Common.{◌≡◌, take}
use Rattle.v_design.specs.Design.{inputs_among}
use Rattle.machine_run.proofs.pins.inputs.Given as goal

abbrev pub invariant-loop-port : goal.invariant-loop-port
invariant-loop-port l = l.pins.items ≡ inputs_among (take l.port-index l.ports)

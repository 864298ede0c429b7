use Rattle.std.proofs.Common.{◌≡◌, ◌++◌, map, take}
use Rattle.v_design.specs.WellFormed.{port_net, decl_net}
use Rattle.v_check.specs.Nets.{nets_seen}
use Rattle.v_check.proofs.nets.nets_of.Given as goal

abbrev pub invariant-loop-port : goal.invariant-loop-port
invariant-loop-port l = nets_seen l.nets.items ≡ map port_net (take l.port-index l.ports)

abbrev pub invariant-loop-decl : goal.invariant-loop-decl
invariant-loop-decl l = nets_seen l.nets.items ≡ map port_net l.ports ++ map decl_net (take l.decl-index l.decls)

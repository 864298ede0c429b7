use Rattle.gen_ports.proofs.Laying.{PortsTo}
use Rattle.gen_ports.proofs.laid.port_nodes.Given as goal

abbrev pub invariant-loop-port : goal.invariant-loop-port
invariant-loop-port l = PortsTo l.ports l.fn.net l.net l.ids.items l.port-index

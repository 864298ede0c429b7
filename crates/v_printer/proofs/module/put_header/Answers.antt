use Rattle.std.proofs.Common.{codes, ◌++◌}
use Rattle.v_design.specs.Header.{ports_text}
use Rattle.v_printer.specs.Module.{ports}
use Rattle.rb_edge.proofs.Flowing.{and_then, stopped, of_bytes}
use Rattle.v_printer.proofs.module.put_header.Goals as goal

pub returns-in_err-put : goal.returns-in_err-put
returns-in_err-put g c = stopped (c.args.net.now.name ++ (codes " (\n" ++ (ports_text (ports c.args.net.now) ++ (codes ");\n")))) c.from_residual.result c.from_residual.ensures.0 c.in_err-put.ensures

pub returns-in_err-put-2 : goal.returns-in_err-put-2
returns-in_err-put-2 g c = and_then c.in_ok-put.ensures (stopped (codes " (\n" ++ (ports_text (ports c.args.net.now) ++ (codes ");\n"))) c.from_residual-in_err-put-2.result c.from_residual-in_err-put-2.ensures.0 (of_bytes c.name.result.now c.args.net.now.name c.name.ensures c.in_err-put-2.ensures))

pub returns-in_err-put-3 : goal.returns-in_err-put-3
returns-in_err-put-3 g c = and_then c.in_ok-put.ensures (and_then (of_bytes c.name.result.now c.args.net.now.name c.name.ensures c.in_ok-put-2.ensures) (stopped (ports_text (ports c.args.net.now) ++ (codes ");\n")) c.from_residual-in_err-put-3.result c.from_residual-in_err-put-3.ensures.0 c.in_err-put-3.ensures))

pub returns-in_err-put_ports : goal.returns-in_err-put_ports
returns-in_err-put_ports g c = and_then c.in_ok-put.ensures (and_then (of_bytes c.name.result.now c.args.net.now.name c.name.ensures c.in_ok-put-2.ensures) (and_then c.in_ok-put-3.ensures (stopped (codes ");\n") c.from_residual-in_err-put_ports.result c.from_residual-in_err-put_ports.ensures.0 c.in_err-put_ports.ensures)))

pub returns : goal.returns
returns g c = and_then c.in_ok-put.ensures (and_then (of_bytes c.name.result.now c.args.net.now.name c.name.ensures c.in_ok-put-2.ensures) (and_then c.in_ok-put-3.ensures (and_then c.in_ok-put_ports.ensures c.put-4.ensures)))

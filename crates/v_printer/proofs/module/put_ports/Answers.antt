use Rattle.std.proofs.Common.{◌≡◌, slice_get, Some, length, ap, ◌∙◌, arith}
use Rattle.rtl_net.proofs.Places.{read_at}
use Rattle.v_printer.specs.Layout.{port_line}
use Rattle.rb_edge.proofs.Flowing.{and_then, stopped, nothing, of_bytes}
use Rattle.v_printer.proofs.Sections.{port_lines, more_lines, lines_left, all_lines, last_lines}
use Rattle.v_printer.proofs.module.put_ports.Goals as goal

pub loop-at-init : goal.loop-at-init
loop-at-init g c = nothing _ _ _ tt

pub put_port_line-requires : goal.put_port_line-requires
put_port_line-requires g c = (c.requires.seats c.loop-at.at c.seat-item.result (read_at c.seats-seat-items.result.now c.args.net.now.seats c.loop-at.at c.seat-item.result c.seats-seat-items.ensures c.loop-at-test.true c.seat-item.is)).0.0

pub returns-in_err-put_port_line : goal.returns-in_err-put_port_line
returns-in_err-put_port_line g c =
    let seats = c.args.net.now.seats in
    let f = port_line (length c.args.net.now.seats) in
    let item : slice_get seats c.loop-at.at ≡ Some c.seat-item.result = read_at c.seats-seat-items.result.now seats c.loop-at.at c.seat-item.result c.seats-seat-items.ensures c.loop-at-test.true c.seat-item.is in
    of_bytes _ _ (all_lines f seats c.loop-at.at c.seat-item.result item ∙ port_lines (length seats) 0 seats (omega arith))
    (and_then c.loop-at.invariant (stopped {xs = f c.loop-at.at c.seat-item.result} (lines_left f seats c.loop-at.at c.seat-item.result item) c.from_residual.result c.from_residual.ensures.0 (of_bytes (port_line (length c.seats-count.result.now) c.loop-at.at c.seat-item.result) (f c.loop-at.at c.seat-item.result) (ap (λ n. port_line n c.loop-at.at c.seat-item.result) (ap length c.seats-count.ensures)) c.in_err-put_port_line.ensures)))

pub loop-at-preserved : goal.loop-at-preserved
loop-at-preserved g c =
    let seats = c.args.net.now.seats in
    let f = port_line (length c.args.net.now.seats) in
    let item : slice_get seats c.loop-at.at ≡ Some c.seat-item.result = read_at c.seats-seat-items.result.now seats c.loop-at.at c.seat-item.result c.seats-seat-items.ensures c.loop-at-test.true c.seat-item.is in
    of_bytes _ _ (more_lines f seats c.loop-at.at c.seat-item.result item) (and_then c.loop-at.invariant (of_bytes (port_line (length c.seats-count.result.now) c.loop-at.at c.seat-item.result) (f c.loop-at.at c.seat-item.result) (ap (λ n. port_line n c.loop-at.at c.seat-item.result) (ap length c.seats-count.ensures)) c.in_ok-put_port_line.ensures))

pub returns : goal.returns
returns g c = of_bytes _ _ (last_lines (port_line (length c.args.net.now.seats)) c.args.net.now.seats c.loop-at.at (omega (arith, ap length c.seats-seat-items.ensures)) ∙ port_lines (length c.args.net.now.seats) 0 c.args.net.now.seats (omega arith)) c.loop-at.invariant

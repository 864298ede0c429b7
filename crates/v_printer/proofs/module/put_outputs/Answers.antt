use Rattle.std.proofs.Common.{◌≡◌, slice_get, Some, length, ap, arith}
use Rattle.rtl_net.proofs.Places.{read_at}
use Rattle.v_printer.specs.Layout.{shown_text}
use Rattle.rb_edge.proofs.Flowing.{and_then, stopped, nothing, of_bytes}
use Rattle.v_printer.proofs.Sections.{more_lines, lines_left, all_lines, last_lines}
use Rattle.v_printer.proofs.module.put_outputs.Goals as goal

pub loop-at-init : goal.loop-at-init
loop-at-init g c = nothing _ _ _ tt

pub put_if_shown-requires : goal.put_if_shown-requires
put_if_shown-requires g c = (c.requires.seats c.loop-at.at c.seat-item.result (read_at c.seats-seat-items.result.now c.args.net.now.seats c.loop-at.at c.seat-item.result c.seats-seat-items.ensures c.loop-at-test.true c.seat-item.is)).1

pub returns-in_err-put_if_shown : goal.returns-in_err-put_if_shown
returns-in_err-put_if_shown g c =
    let seats = c.args.net.now.seats in
    let f = shown_text c.args.net.now in
    let item : slice_get seats c.loop-at.at ≡ Some c.seat-item.result = read_at c.seats-seat-items.result.now seats c.loop-at.at c.seat-item.result c.seats-seat-items.ensures c.loop-at-test.true c.seat-item.is in
    of_bytes _ _ (all_lines f seats c.loop-at.at c.seat-item.result item)
    (and_then c.loop-at.invariant (stopped {xs = f c.loop-at.at c.seat-item.result} (lines_left f seats c.loop-at.at c.seat-item.result item) c.from_residual.result c.from_residual.ensures.0 c.in_err-put_if_shown.ensures))

pub loop-at-preserved : goal.loop-at-preserved
loop-at-preserved g c =
    let seats = c.args.net.now.seats in
    let f = shown_text c.args.net.now in
    let item : slice_get seats c.loop-at.at ≡ Some c.seat-item.result = read_at c.seats-seat-items.result.now seats c.loop-at.at c.seat-item.result c.seats-seat-items.ensures c.loop-at-test.true c.seat-item.is in
    of_bytes _ _ (more_lines f seats c.loop-at.at c.seat-item.result item) (and_then c.loop-at.invariant c.in_ok-put_if_shown.ensures)

pub returns : goal.returns
returns g c = of_bytes _ _ (last_lines (shown_text c.args.net.now) c.args.net.now.seats c.loop-at.at (omega (arith, ap length c.seats-seat-items.ensures))) c.loop-at.invariant

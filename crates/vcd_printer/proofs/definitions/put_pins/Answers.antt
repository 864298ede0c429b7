use Rattle.std.specs.List.{enumerate_from}
use Rattle.std.proofs.Common.{◌≡◌, slice_get, Some, ◌∙◌, arith}
use Rattle.rb_edge.proofs.Flowing.{and_then, stopped, nothing, of_bytes}
use Rattle.vcd_printer.proofs.Each.{read, more, left, all, last, numbered, numbered_length}
use Rattle.vcd_printer.proofs.Lines.{var_lines, var_text_of}
use Rattle.vcd_printer.proofs.definitions.put_pins.Goals as goal

pub loop-at-init : goal.loop-at-init
loop-at-init g c = nothing _ _ _ tt

pub returns-in_err-put_pin : goal.returns-in_err-put_pin
returns-in_err-put_pin g c =
    let pins = c.args.pins.now in
    let at = c.loop-at.at in
    let pin = c.index-pins-at.result in
    let found : slice_get pins at ≡ Some pin = read pins at pin c.loop-at-test.true c.index-pins-at.is in
    of_bytes _ _ (all var_text_of (enumerate_from 0 pins) at (at, pin) (numbered pins at pin found) ∙ var_lines pins)
    (and_then c.loop-at.invariant (stopped {xs = var_text_of (at, pin)} (left var_text_of (enumerate_from 0 pins) at) c.from_residual.result c.from_residual.ensures.0 c.in_err-put_pin.ensures))

pub loop-at-preserved : goal.loop-at-preserved
loop-at-preserved g c =
    let pins = c.args.pins.now in
    let at = c.loop-at.at in
    let pin = c.index-pins-at.result in
    let found : slice_get pins at ≡ Some pin = read pins at pin c.loop-at-test.true c.index-pins-at.is in
    of_bytes _ _ (more var_text_of (enumerate_from 0 pins) at (at, pin) (numbered pins at pin found)) (and_then c.loop-at.invariant c.in_ok-put_pin.ensures)

pub returns : goal.returns
returns g c =
    let pins = c.args.pins.now in
    of_bytes _ _ (last var_text_of (enumerate_from 0 pins) c.loop-at.at (omega (arith, numbered_length 0 pins, c.loop-at-test.false)) ∙ var_lines pins) c.loop-at.invariant

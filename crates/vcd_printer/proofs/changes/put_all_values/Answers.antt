use Rattle.std.specs.List.{enumerate_from, zip}
use Rattle.std.proofs.Common.{◌<◌, ◌≤◌, get_or, length, ◌∙◌, arith}
use Rattle.rb_edge.proofs.Flowing.{and_then, stopped, nothing, of_bytes}
use Rattle.plain_lemmas.proofs.Lists.{get-at}
use Rattle.vcd_printer.proofs.Each.{read, more, left, all, last, numbered, numbered_length, paired}
use Rattle.vcd_printer.proofs.Lines.{value_text, values_from}
use Rattle.vcd_printer.proofs.Fitting.{as_many, fits_at, zip_length}
use Rattle.vcd_printer.proofs.changes.put_all_values.Goals as goal

pub loop-at-init : goal.loop-at-init
loop-at-init g c = nothing _ _ _ tt

pub bounds-now-at : goal.bounds-now-at
bounds-now-at g c = omega (arith, as_many c.args.pins.now c.args.now.now c.requires, c.loop-at-test.true)

pub put_change-requires : goal.put_change-requires
put_change-requires g c = fits_at c.args.pins.now c.args.now.now c.loop-at.at c.index-pins-at.result c.requires (read c.args.pins.now c.loop-at.at c.index-pins-at.result c.loop-at-test.true c.index-pins-at.is)

pub returns-in_err-put_change : goal.returns-in_err-put_change
returns-in_err-put_change g c =
    let pins = c.args.pins.now in
    let now = c.args.now.now in
    let at = c.loop-at.at in
    let pin = c.index-pins-at.result in
    let more_now : at < length now = omega (arith, as_many pins now c.requires, c.loop-at-test.true) in
    let found = numbered (zip pins now) at (pin, get_or now at 0) (paired pins now at pin (get_or now at 0) (read pins at pin c.loop-at-test.true c.index-pins-at.is) (get-at now at 0 more_now)) in
    of_bytes _ _ (all value_text (enumerate_from 0 (zip pins now)) at (at, (pin, get_or now at 0)) found ∙ values_from 0 pins now)
    (and_then c.loop-at.invariant (stopped {xs = value_text (at, (pin, get_or now at 0))} (left value_text (enumerate_from 0 (zip pins now)) at) c.from_residual.result c.from_residual.ensures.0 c.in_err-put_change.ensures))

pub loop-at-preserved : goal.loop-at-preserved
loop-at-preserved g c =
    let pins = c.args.pins.now in
    let now = c.args.now.now in
    let at = c.loop-at.at in
    let pin = c.index-pins-at.result in
    let more_now : at < length now = omega (arith, as_many pins now c.requires, c.loop-at-test.true) in
    let found = numbered (zip pins now) at (pin, get_or now at 0) (paired pins now at pin (get_or now at 0) (read pins at pin c.loop-at-test.true c.index-pins-at.is) (get-at now at 0 more_now)) in
    of_bytes _ _ (more value_text (enumerate_from 0 (zip pins now)) at (at, (pin, get_or now at 0)) found) (and_then c.loop-at.invariant c.in_ok-put_change.ensures)

pub returns : goal.returns
returns g c =
    let pins = c.args.pins.now in
    let now = c.args.now.now in
    let short : length (enumerate_from 0 (zip pins now)) ≤ c.loop-at.at = omega (arith, numbered_length 0 (zip pins now), zip_length pins now, c.loop-at-test.false) in
    of_bytes _ _ (last value_text (enumerate_from 0 (zip pins now)) c.loop-at.at short ∙ values_from 0 pins now) c.loop-at.invariant

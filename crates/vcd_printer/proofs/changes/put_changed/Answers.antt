use Rattle.std.specs.List.{enumerate_from, zip}
use Rattle.std.proofs.Common.{ℕ, ◌<◌, ◌≤◌, get_or, length, ◌∙◌, arith}
use Rattle.rb_edge.proofs.Flowing.{and_then, stopped, nothing, of_bytes}
use Rattle.plain_lemmas.proofs.Lists.{get-at}
use Rattle.vcd_printer.proofs.Each.{read, more, left, all, last, numbered, numbered_length, paired}
use Rattle.vcd_printer.proofs.Lines.{changed_text, changed_from}
use Rattle.vcd_printer.proofs.Fitting.{as_many, fits_at, zip_length}
use Rattle.vcd_printer.proofs.changes.put_changed.Goals as goal

pub loop-at-init : goal.loop-at-init
loop-at-init g c = nothing _ _ _ tt

pub bounds-before-at : goal.bounds-before-at
bounds-before-at g c = omega (arith, as_many c.args.pins.now c.args.before.now c.requires.before, c.loop-at-test.true)

pub bounds-now-at : goal.bounds-now-at
bounds-now-at g c = omega (arith, as_many c.args.pins.now c.args.now.now c.requires.fits, c.loop-at-test.true)

pub put_if_changed-requires : goal.put_if_changed-requires
put_if_changed-requires g c = fits_at c.args.pins.now c.args.now.now c.loop-at.at c.index-pins-at.result c.requires.fits (read c.args.pins.now c.loop-at.at c.index-pins-at.result c.loop-at-test.true c.index-pins-at.is)

pub returns-in_err-put_if_changed : goal.returns-in_err-put_if_changed
returns-in_err-put_if_changed g c =
    let pins = c.args.pins.now in
    let before = c.args.before.now in
    let now = c.args.now.now in
    let at = c.loop-at.at in
    let pin = c.index-pins-at.result in
    let values : ℕ × ℕ = (get_or before at 0, get_or now at 0) in
    let items = enumerate_from 0 (zip pins (zip before now)) in
    let more_before : at < length before = omega (arith, as_many pins before c.requires.before, c.loop-at-test.true) in
    let more_now : at < length now = omega (arith, as_many pins now c.requires.fits, c.loop-at-test.true) in
    let both = paired before now at (get_or before at 0) (get_or now at 0) (get-at before at 0 more_before) (get-at now at 0 more_now) in
    let found = numbered (zip pins (zip before now)) at (pin, values) (paired pins (zip before now) at pin values (read pins at pin c.loop-at-test.true c.index-pins-at.is) both) in
    of_bytes _ _ (all changed_text items at (at, (pin, values)) found ∙ changed_from 0 pins before now)
    (and_then c.loop-at.invariant (stopped {xs = changed_text (at, (pin, values))} (left changed_text items at) c.from_residual.result c.from_residual.ensures.0 c.in_err-put_if_changed.ensures))

pub loop-at-preserved : goal.loop-at-preserved
loop-at-preserved g c =
    let pins = c.args.pins.now in
    let before = c.args.before.now in
    let now = c.args.now.now in
    let at = c.loop-at.at in
    let pin = c.index-pins-at.result in
    let values : ℕ × ℕ = (get_or before at 0, get_or now at 0) in
    let items = enumerate_from 0 (zip pins (zip before now)) in
    let more_before : at < length before = omega (arith, as_many pins before c.requires.before, c.loop-at-test.true) in
    let more_now : at < length now = omega (arith, as_many pins now c.requires.fits, c.loop-at-test.true) in
    let both = paired before now at (get_or before at 0) (get_or now at 0) (get-at before at 0 more_before) (get-at now at 0 more_now) in
    let found = numbered (zip pins (zip before now)) at (pin, values) (paired pins (zip before now) at pin values (read pins at pin c.loop-at-test.true c.index-pins-at.is) both) in
    of_bytes _ _ (more changed_text items at (at, (pin, values)) found) (and_then c.loop-at.invariant c.in_ok-put_if_changed.ensures)

pub returns : goal.returns
returns g c =
    let pins = c.args.pins.now in
    let before = c.args.before.now in
    let now = c.args.now.now in
    let items = enumerate_from 0 (zip pins (zip before now)) in
    let short : length items ≤ c.loop-at.at = omega (arith, numbered_length 0 (zip pins (zip before now)), zip_length pins (zip before now), c.loop-at-test.false) in
    of_bytes _ _ (last changed_text items c.loop-at.at short ∙ changed_from 0 pins before now) c.loop-at.invariant

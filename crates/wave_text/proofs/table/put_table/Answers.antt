use Rattle.std.specs.List.{flat_map}
use Rattle.std.proofs.Common.{◌<◌, ◌≤◌, ◌++◌, length, map, ap, sym, ◌∙◌, arith, append-nil}
use Rattle.std.proofs.lemmas.List.{take_all}
use Rattle.rb_edge.proofs.Flowing.{and_then, stopped, of_bytes}
use Rattle.report_text.specs.Printed.{line, printed_run}
use Rattle.wave_text.proofs.Commas.{row_more, row_with_rest, rows_left, row_text}
use Rattle.wave_text.proofs.table.put_table.Goals as goal

pub returns-in_err-put_names : goal.returns-in_err-put_names
returns-in_err-put_names g c =
    let waves = c.args.waves.now in
    of_bytes _ _ (ap (λ ps. line (map (λ p. p.name) ps) ++ flat_map row_text waves.rows) c.pins.ensures)
    (stopped (flat_map row_text waves.rows) c.from_residual.result c.from_residual.ensures.0 c.in_err-put_names.ensures)

pub loop-row-init : goal.loop-row-init
loop-row-init g c = of_bytes _ _ (ap (λ ps. line (map (λ p. p.name) ps)) c.pins.ensures ∙ sym (append-nil (line (map (λ p. p.name) c.args.waves.now.pins)))) c.in_ok-put_names.ensures

pub returns-in_err-put_row : goal.returns-in_err-put_row
returns-in_err-put_row g c =
    let waves = c.args.waves.now in
    let more : c.loop-row.row < length waves.rows = omega (arith, c.loop-row-test.true, c.rows-row-end.ensures.rows) in
    of_bytes _ _ (row_with_rest waves.pins waves.rows c.loop-row.row more)
    (and_then c.loop-row.invariant (stopped (rows_left waves.rows c.loop-row.row) c.from_residual-in_err-put_row.result c.from_residual-in_err-put_row.ensures.0 c.in_err-put_row.ensures))

pub loop-row-preserved : goal.loop-row-preserved
loop-row-preserved g c =
    let waves = c.args.waves.now in
    let more : c.loop-row.row < length waves.rows = omega (arith, c.loop-row-test.true, c.rows-row-end.ensures.rows) in
    of_bytes _ _ (row_more waves.pins waves.rows c.loop-row.row more) (and_then c.loop-row.invariant c.in_ok-put_row.ensures)

pub returns : goal.returns
returns g c =
    let waves = c.args.waves.now in
    let all : length waves.rows ≤ c.loop-row.row = omega (arith, c.loop-row-test.false, c.rows-row-end.ensures.rows) in
    of_bytes _ _ (ap (printed_run waves.pins) (take_all c.loop-row.row waves.rows all)) c.loop-row.invariant

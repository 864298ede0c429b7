use Rattle.std.proofs.Common.{◌<◌, ◌≤◌, [], length, map, get_or, ap, arith}
use Rattle.std.proofs.lemmas.List.{length-map}
use Rattle.rb_edge.proofs.Flowing.{and_then, stopped, nothing, of_bytes}
use Rattle.report_text.specs.Printed.{cell}
use Rattle.wave_text.proofs.Commas.{at_front, one_more, with_rest, rest, whole, item}
use Rattle.wave_text.proofs.lines.put_all_values.Goals as goal

pub loop-at-init : goal.loop-at-init
loop-at-init g c = ([], at_front (map cell (get_or c.args.waves.now.rows c.args.row [])), nothing _ _ _ tt)

pub returns-in_err-put_value : goal.returns-in_err-put_value
returns-in_err-put_value g c =
    let row = get_or c.args.waves.now.rows c.args.row [] in
    let at = c.loop-at.at in
    let more : at < length row = omega (arith, c.loop-at-test.true, ap length c.pins-at-end.ensures, c.requires.wide) in
    let here = item cell row at 0 c.value.result more c.value.ensures in
    of_bytes _ _ (with_rest (map cell row) at (cell c.value.result) c.loop-at.invariant.0 here c.loop-at.invariant.1)
    (and_then c.loop-at.invariant.2 (stopped (rest (map cell row) at) c.from_residual.result c.from_residual.ensures.0 c.in_err-put_value.ensures))

pub loop-at-preserved : goal.loop-at-preserved
loop-at-preserved g c =
    let row = get_or c.args.waves.now.rows c.args.row [] in
    let at = c.loop-at.at in
    let more : at < length row = omega (arith, c.loop-at-test.true, ap length c.pins-at-end.ensures, c.requires.wide) in
    let here = item cell row at 0 c.value.result more c.value.ensures in
    (_, one_more (map cell row) at (cell c.value.result) c.loop-at.invariant.0 here c.loop-at.invariant.1, and_then c.loop-at.invariant.2 c.in_ok-put_value.ensures)

pub returns : goal.returns
returns g c =
    let row = get_or c.args.waves.now.rows c.args.row [] in
    let short : length (map cell row) ≤ c.loop-at.at = omega (arith, length-map row cell, c.loop-at-test.false, ap length c.pins-at-end.ensures, c.requires.wide) in
    of_bytes _ _ (whole (map cell row) c.loop-at.at c.loop-at.invariant.0 short c.loop-at.invariant.1) c.loop-at.invariant.2

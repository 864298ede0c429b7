use Rattle.std.proofs.Common.{◌≤◌, [], ◌++◌, length, map, ap, arith}
use Rattle.std.proofs.lemmas.List.{length-map}
use Rattle.rb_edge.proofs.Flowing.{and_then, stopped, nothing, of_bytes}
use Rattle.wave_text.specs.Pieces.{comma}
use Rattle.wave_text.proofs.Commas.{at_front, one_more, with_rest, rest, whole, item}
use Rattle.wave_text.proofs.lines.put_all_names.Goals as goal

pub loop-at-init : goal.loop-at-init
loop-at-init g c = ([], at_front (map (λ p. p.name) c.args.pins.now), nothing _ _ _ tt)

pub returns-in_err-put_name : goal.returns-in_err-put_name
returns-in_err-put_name g c =
    let pins = c.args.pins.now in
    let at = c.loop-at.at in
    let pin = c.index-pins-at.result in
    let names = map (λ p. p.name) pins in
    let here = item (λ p. p.name) pins at pin pin c.loop-at-test.true c.index-pins-at.is in
    of_bytes _ _ (with_rest names at pin.name c.loop-at.invariant.0 here c.loop-at.invariant.1)
    (and_then c.loop-at.invariant.2 (stopped (rest names at) c.from_residual.result c.from_residual.ensures.0 (of_bytes _ _ (ap (λ n. comma at ++ n) c.name_of.ensures) c.in_err-put_name.ensures)))

pub loop-at-preserved : goal.loop-at-preserved
loop-at-preserved g c =
    let pins = c.args.pins.now in
    let at = c.loop-at.at in
    let pin = c.index-pins-at.result in
    let names = map (λ p. p.name) pins in
    let here = item (λ p. p.name) pins at pin pin c.loop-at-test.true c.index-pins-at.is in
    (_, one_more names at pin.name c.loop-at.invariant.0 here c.loop-at.invariant.1, and_then c.loop-at.invariant.2 (of_bytes _ _ (ap (λ n. comma at ++ n) c.name_of.ensures) c.in_ok-put_name.ensures))

pub returns : goal.returns
returns g c =
    let pins = c.args.pins.now in
    let names = map (λ p. p.name) pins in
    let short : length names ≤ c.loop-at.at = omega (arith, length-map pins (λ p. p.name), c.loop-at-test.false) in
    of_bytes _ _ (whole names c.loop-at.at c.loop-at.invariant.0 short c.loop-at.invariant.1) c.loop-at.invariant.2

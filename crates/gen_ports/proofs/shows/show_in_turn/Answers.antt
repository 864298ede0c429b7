use Rattle.std.proofs.Common.{◌<◌, length, map, refl, arith}
use Rattle.plain_lemmas.proofs.Lists.{get-at, get-map_at, length-map, some-at}
use Rattle.gen_ports.specs.Registers.{pin_of}
use Rattle.gen_ports.proofs.Showing.{all_shown, next_here, shown_more, shown_none}
use Rattle.gen_ports.proofs.shows.show_in_turn.Goals as goal

pub loop-number-init : goal.loop-number-init
loop-number-init c = shown_none (map pin_of c.args.rows.now) c.args.net.now c.args.ids.now c.requires.rows

pub output-requires-clause-named : goal.output-requires-clause-named
output-requires-clause-named c =
    let low : c.loop-number.number < length c.args.rows.now = let l = c.requires.nodes.long in let m = length-map pin_of c.args.rows.now in omega (arith, l, m, c.loop-number-test.true) in
    let here = get-map_at pin_of c.args.rows.now c.loop-number.number _ (get-at c.args.rows.now c.loop-number.number _ low) in
    (next_here (map pin_of c.args.rows.now) c.args.net.now c.loop-number.net c.args.ids.now c.loop-number.number _ _ c.requires.rows c.requires.nodes here refl c.loop-number.invariant).named

pub output-requires-clause-stands : goal.output-requires-clause-stands
output-requires-clause-stands c =
    let here = some-at (map pin_of c.args.rows.now) c.loop-number.number (let l = c.requires.nodes.long in omega (arith, l, c.loop-number-test.true)) in
    (next_here (map pin_of c.args.rows.now) c.args.net.now c.loop-number.net c.args.ids.now c.loop-number.number here.0 _ c.requires.rows c.requires.nodes here.1 refl c.loop-number.invariant).has

pub output-requires-clause-free : goal.output-requires-clause-free
output-requires-clause-free c =
    let low : c.loop-number.number < length c.args.rows.now = let l = c.requires.nodes.long in let m = length-map pin_of c.args.rows.now in omega (arith, l, m, c.loop-number-test.true) in
    let here = get-map_at pin_of c.args.rows.now c.loop-number.number _ (get-at c.args.rows.now c.loop-number.number _ low) in
    (next_here (map pin_of c.args.rows.now) c.args.net.now c.loop-number.net c.args.ids.now c.loop-number.number _ _ c.requires.rows c.requires.nodes here refl c.loop-number.invariant).free

pub loop-number-preserved : goal.loop-number-preserved
loop-number-preserved c =
    let low : c.loop-number.number < length c.args.rows.now = let l = c.requires.nodes.long in let m = length-map pin_of c.args.rows.now in omega (arith, l, m, c.loop-number-test.true) in
    let here = get-map_at pin_of c.args.rows.now c.loop-number.number _ (get-at c.args.rows.now c.loop-number.number _ low) in
    let id_here = get-at c.args.ids.now c.loop-number.number _ c.loop-number-test.true in
    shown_more (map pin_of c.args.rows.now) c.args.net.now c.loop-number.net c.output.new.self c.args.ids.now c.loop-number.number _ _ c.requires.rows c.requires.nodes here id_here refl c.loop-number.invariant
    c.output.ensures.older c.output.ensures.name c.output.ensures.nodes c.in_ok-output.ensures.seats c.in_ok-output.ensures.shown

pub returns-clause-shown : goal.returns-clause-shown
returns-clause-shown c =
    all_shown (map pin_of c.args.rows.now) c.args.net.now c.loop-number.net c.args.ids.now c.loop-number.number
    (let past = c.loop-number-test.false in let l = c.requires.nodes.long in omega arith) c.loop-number.invariant

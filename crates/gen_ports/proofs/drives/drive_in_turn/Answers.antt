use Rattle.std.proofs.Common.{map, arith}
use Rattle.rtl_net.proofs.Places.{item_at}
use Rattle.gen_ports.specs.Registers.{pin_of}
use Rattle.gen_ports.proofs.Driving.{all_driven, can_drive, driven_more}
use Rattle.gen_ports.proofs.drives.drive_in_turn.Goals as goal

pub drive-requires : goal.drive-requires
drive-requires c =
    let here = item_at (map pin_of c.args.rows.now) c.loop-number.number (let l = c.requires.nexts.long in omega (arith, l, c.loop-number-test.true)) in
    can_drive c.args.resetn (map pin_of c.args.rows.now) c.args.net.now c.loop-number.net c.args.ids.now c.args.nexts.now c.loop-number.number here.0 here.1 c.loop-number.invariant c.requires.nexts

pub loop-number-preserved : goal.loop-number-preserved
loop-number-preserved c =
    let here = item_at (map pin_of c.args.rows.now) c.loop-number.number (let l = c.requires.nexts.long in omega (arith, l, c.loop-number-test.true)) in
    driven_more c.args.resetn (map pin_of c.args.rows.now) c.args.net.now c.loop-number.net c.drive.new.self c.args.ids.now c.args.nexts.now c.loop-number.number here.0 c.requires.names here.1 c.loop-number.invariant
    c.drive.ensures.older c.drive.ensures.name c.drive.ensures.seats c.drive.ensures.registers c.drive.ensures.undriven c.drive.ensures.others c.drive.ensures.driven

pub returns-clause-taken : goal.returns-clause-taken
returns-clause-taken c = all_driven c.args.resetn (map pin_of c.args.rows.now) c.args.net.now c.loop-number.net c.args.ids.now c.args.nexts.now c.loop-number.number c.requires.resetn
    (let past = c.loop-number-test.false in let low = c.loop-number.auto.number-end in let l = c.requires.nexts.long in omega arith) c.loop-number.invariant

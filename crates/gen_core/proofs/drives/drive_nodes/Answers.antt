use Rattle.std.proofs.Common.{arith}
use Rattle.rtl_net.proofs.Places.{item_at}
use Rattle.rb_model.specs.Kept.{field_kept}
use Rattle.gen_core.proofs.Driving.{all_driven, can_drive, driven_more, driven_none}
use Rattle.gen_core.proofs.drives.drive_nodes.Goals as goal

pub loop-number-init : goal.loop-number-init
loop-number-init c = driven_none c.args.base.now.block.now c.args.base.now.plan.now c.args.base.now.pins.now c.args.net.now c.args.base.now.kept.now c.args.nexts.now c.requires.awaits

pub drive-requires : goal.drive-requires
drive-requires c =
    let b = c.args.base.now.block.now in
    let here = item_at (field_kept b) c.loop-number.number (let l = c.requires.nexts.long in omega (arith, c.loop-number-test.true)) in
    can_drive b c.args.base.now.inlet c.args.base.now.plan.now c.args.base.now.pins.now c.args.net.now c.loop-number.net c.args.base.now.kept.now c.args.nexts.now c.loop-number.number here.0 here.1 c.loop-number.invariant c.requires.nexts

pub loop-number-preserved : goal.loop-number-preserved
loop-number-preserved c =
    let b = c.args.base.now.block.now in
    let here = item_at (field_kept b) c.loop-number.number (let l = c.requires.nexts.long in omega (arith, c.loop-number-test.true)) in
    driven_more b c.args.base.now.plan.now c.args.base.now.pins.now c.args.net.now c.loop-number.net c.drive.new.self c.args.base.now.kept.now c.args.nexts.now c.loop-number.number here.0
    (c.names_differ.ensures b c.requires.base.sound) here.1 c.loop-number.invariant c.drive.ensures.older c.drive.ensures.name c.drive.ensures.seats c.drive.ensures.registers c.drive.ensures.undriven c.drive.ensures.others c.drive.ensures.driven

pub returns-clause-moved : goal.returns-clause-moved
returns-clause-moved c = all_driven c.args.base.now c.args.net.now c.loop-number.net c.args.nexts.now c.loop-number.number c.requires.base c.requires.nexts c.loop-number-test.false c.loop-number.invariant

use Rattle.std.proofs.Common.{refl, arith}
use Rattle.std.proofs.lemmas.Result.{IfOk-weaker}
use Rattle.gen_scene.proofs.Counts.{width_fits}
use Rattle.gen_scene.proofs.Made.{present_worth, reset_fits, storage_value}
use Rattle.block_plan.proofs.Wanting.{field_sound}
use Rattle.gen_scene.proofs.Worths.{worth_as}
use Rattle.gen_scene.proofs.making.field_value.Goals as goal

pub present-requires-clause-wide : goal.present-requires-clause-wide
present-requires-clause-wide c = let w = width_fits c.args.scene.now.base.now.block.now c.args.net.now c.args.scene.now.base.now c.args.place c.args.field.now c.requires.base c.requires.here in (w.0, omega (arith, w.1))

pub present-requires-in-Wire-clause-wide : goal.present-requires-in-Wire-clause-wide
present-requires-in-Wire-clause-wide c = let w = width_fits c.args.scene.now.base.now.block.now c.args.net.now c.args.scene.now.base.now c.args.place c.args.field.now c.requires.base c.requires.here in (w.0, omega (arith, w.1))

pub number-requires-clause-wide : goal.number-requires-clause-wide
number-requires-clause-wide c = let w = width_fits c.args.scene.now.base.now.block.now c.args.net.now c.args.scene.now.base.now c.args.place c.args.field.now c.requires.base c.requires.here in (w.0, omega (arith, w.1))

pub number-requires-clause-fits : goal.number-requires-clause-fits
number-requires-clause-fits c = rw c.reset_or_zero.ensures (reset_fits c.args.field.now (field_sound c.args.scene.now.base.now.block.now c.requires.base.sound c.args.place c.args.field.now c.requires.here).alone.reset)

pub returns-in-Storage-clause-worth : goal.returns-in-Storage-clause-worth
returns-in-Storage-clause-worth c = IfOk-weaker c.present.result _ _ (λ id node.
    let b = c.args.scene.now.base.now.block.now in
    let a = c.args.scene.now.base.now.inlet in
    worth_as b a c.present.new.net id c.args.field.now.width c.args.field.now.width _ _
    (present_worth b a c.args.net.now c.present.new.net c.value.result id c.args.field.now.width _ (c.value.ensures c.args.net.now c.args.field.now c.requires.base c.requires.here) c.present.ensures.older node) refl
    (λ n v k. storage_value n v c.args.place c.args.field.now c.in-Storage.is)) c.present.ensures.node

use Rattle.std.proofs.Common.{◌<◌, arith, length, sym}
use Rattle.std.proofs.lemmas.Option.{slice_get_within}
use Rattle.rb_machine.proofs.Begun.{room_at, steps_begin, steps_next}
use Rattle.rb_machine.proofs.plain.take_steps.Goals as goal

pub loop-plain-init : goal.loop-plain-init
loop-plain-init c = steps_begin c.args.pins.now c.args.steps.now c.args.states.now

pub bounds-states-number : goal.bounds-states-number
bounds-states-number c = room_at c.args.steps.now (length c.args.states.now) (length c.loop-plain.states) (sym c.loop-plain.auto.states) c.requires.room c.loop-plain.plain-index _ c.loop-plain-test.true

pub loop-plain-preserved : goal.loop-plain-preserved
loop-plain-preserved c =
    steps_next c.args.pins.now c.args.steps.now c.requires.rising c.args.states.now c.loop-plain.states c.loop-plain.plain-index _ c.begun.result c.loop-plain-test.true
    (room_at c.args.steps.now (length c.args.states.now) (length c.loop-plain.states) (sym c.loop-plain.auto.states) c.requires.room c.loop-plain.plain-index _ c.loop-plain-test.true) c.begun.ensures c.loop-plain.invariant

pub returns-clause-moved : goal.returns-clause-moved
returns-clause-moved c j t at = let low : j < length c.args.steps.now = slice_get_within c.args.steps.now j t at in c.loop-plain.invariant.moved j t (omega (arith, low, c.loop-plain-test.false)) at

pub returns-clause-others : goal.returns-clause-others
returns-clause-others c k none = c.loop-plain.invariant.others k (λ j t low at. none j t at)

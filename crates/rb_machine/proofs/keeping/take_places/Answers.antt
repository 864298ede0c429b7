use Rattle.std.proofs.Common.{arith, length, refl, sym, ◌∙◌}
use Rattle.rb_machine.proofs.Taking.{below_at, taken_at, taken_next}
use Rattle.rb_machine.proofs.keeping.take_places.Goals as goal

pub loop-place-init : goal.loop-place-init
loop-place-init c = record { taken = λ j d l w. absurd (omega (arith, l)); same = λ k e. e }

pub bounds-states-number : goal.bounds-states-number
bounds-states-number c = below_at c.args.places.now (length c.args.states.now) (length c.args.states.now) refl c.requires.there c.loop-place.place-index _ c.loop-place-test.true

pub bounds-fields-number : goal.bounds-fields-number
bounds-fields-number c =
    below_at c.args.places.now (length c.args.states.now) (length c.loop-place.fields) (sym c.requires.sized ∙ sym c.loop-place.auto.fields) c.requires.there c.loop-place.place-index _ c.loop-place-test.true

pub offset_bounds-states-number : goal.offset_bounds-states-number
offset_bounds-states-number c = let low = below_at c.args.places.now (length c.args.states.now) (length c.args.states.now) refl c.requires.there c.loop-place.place-index 0 c.loop-place-test.true in omega (arith, low)

pub offset_bounds-fields-number : goal.offset_bounds-fields-number
offset_bounds-fields-number c = let low = below_at c.args.places.now (length c.args.states.now) (length c.args.states.now) refl c.requires.there c.loop-place.place-index 0 c.loop-place-test.true in omega (arith, low)

pub loop-place-preserved : goal.loop-place-preserved
loop-place-preserved c =
    taken_next c.args.places.now c.args.states.now c.args.fields.now c.loop-place.fields c.loop-place.place-index _ _ c.loop-place-test.true
    (below_at c.args.places.now (length c.args.states.now) (length c.loop-place.fields) (sym c.requires.sized ∙ sym c.loop-place.auto.fields) c.requires.there c.loop-place.place-index _ c.loop-place-test.true) refl c.loop-place.invariant

pub returns-clause-taken : goal.returns-clause-taken
returns-clause-taken c = taken_at c.args.places.now c.args.states.now c.args.fields.now c.loop-place.fields c.loop-place.place-index c.loop-place-test.false c.loop-place.invariant

pub returns-clause-same : goal.returns-clause-same
returns-clause-same c = c.loop-place.invariant.same

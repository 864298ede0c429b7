use Rattle.std.proofs.Common.{◌≡◌, ◌∙◌, Some, length, refl, slice_get, sym}
use Rattle.std.proofs.lemmas.Option.{slice_get_read}
use Rattle.rb_machine.proofs.Begun.{is_field, steps_all, steps_more, steps_none, steps_skip}
use Rattle.rb_machine.proofs.plain.pin_steps.Goals as goal

pub loop-number-init : goal.loop-number-init
loop-number-init c = steps_none c.args.fields.now c.args.places.now c.new-all.result.items c.new-all.ensures.items

pub loop-number-preserved-then-not-is_plain : goal.loop-number-preserved-then-not-is_plain
loop-number-preserved-then-not-is_plain c =
    let fields = c.args.fields.now in
    let i = c.loop-number.number in
    let g = c.index-fields-number.result in
    steps_skip fields c.args.places.now c.loop-number.all.items i g (slice_get_read fields (length fields) i g refl c.loop-number-test.true c.index-fields-number.is) (sym c.is_plain.ensures ∙ c.if-not-is_plain.true) c.loop-number.invariant

pub loop-number-preserved : goal.loop-number-preserved
loop-number-preserved c =
    let fields = c.args.fields.now in
    let i = c.loop-number.number in
    let g = c.index-fields-number.result in
    let here : slice_get fields i ≡ Some g = slice_get_read fields (length fields) i g refl c.loop-number-test.true c.index-fields-number.is in
    let is = is_field fields c.args.places.now i g c.step_at.result here (sym c.is_plain.ensures ∙ c.if-not-is_plain.false) c.step_at.ensures in
    steps_more fields c.args.places.now c.loop-number.all.items c.push.new.self.items (record { number = i; step = c.step_at.result }) c.in_ok-push.ensures.items is c.loop-number.invariant

pub returns : goal.returns
returns c = steps_all c.args.fields.now c.args.places.now c.loop-number.all.items c.loop-number.number c.loop-number-test.false c.loop-number.invariant

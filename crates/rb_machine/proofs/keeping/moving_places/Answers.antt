use Rattle.std.proofs.Common.{◌∙◌, refl, length, sym}
use Rattle.std.proofs.lemmas.Option.{slice_get_read}
use Rattle.rb_machine.proofs.Taking.{moving_all, moving_more, moving_none, moving_skip}
use Rattle.rb_machine.proofs.keeping.moving_places.Goals as goal

pub loop-number-init : goal.loop-number-init
loop-number-init c = moving_none c.args.fields.now c.new-all.result.items c.new-all.ensures.items

pub loop-number-preserved-then-is_quiet : goal.loop-number-preserved-then-is_quiet
loop-number-preserved-then-is_quiet c =
    let fields = c.args.fields.now in
    let i = c.loop-number.number in
    let g = c.index-fields-number.result in
    moving_skip fields c.loop-number.all.items i g (slice_get_read fields (length fields) i g refl c.loop-number-test.true c.index-fields-number.is) (sym c.is_quiet.ensures ∙ c.if-is_quiet.true) c.loop-number.invariant

pub loop-number-preserved : goal.loop-number-preserved
loop-number-preserved c = moving_more c.args.fields.now c.loop-number.all.items c.push.new.self.items c.loop-number.number c.in_ok-push.ensures.items c.loop-number.invariant

pub returns : goal.returns
returns c = moving_all c.args.fields.now c.loop-number.all.items c.loop-number.number c.loop-number-test.false c.loop-number.auto.number-end c.loop-number.invariant

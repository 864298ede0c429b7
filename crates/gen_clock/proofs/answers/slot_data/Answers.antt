use Rattle.std.proofs.Common.{◌≤◌, sym, subst, arith}
use Rattle.rb_model.specs.declared.kinds.RefItem.TheVariants as item
use Rattle.rb_model.specs.SoundField.{FieldIsSoundIn}
use Rattle.rb_model.specs.References.{item_width}
use Rattle.rb_model.proofs.Eachs.{Each-from_zero}
use Rattle.gen_scene.specs.Worth.{IsWorth}
use Rattle.gen_access.proofs.Turns.{field_there}
use Rattle.gen_clock.proofs.Answering.{slot_made, slot_unread}
use Rattle.gen_clock.proofs.answers.slot_data.Goals as goal

pub returns-then-not-view-clause-laid : goal.returns-then-not-view-clause-laid
returns-then-not-view-clause-laid c =
    let b = c.args.scene.now.base.now.block.now in
    slot_unread b c.args.scene.now.base.now.inlet c.args.net.now c.args.stack c.args.slot c.view_at-view.result.now c.requires.stack c.view_at-view.ensures c.if-not-view.true

pub overflow_add-slot : goal.overflow_add-slot
overflow_add-slot c =
    let b = c.args.scene.now.base.now.block.now in
    let s = c.requires.slot in
    let w = (Each-from_zero (FieldIsSoundIn b) b.fields s.view.field s.field c.requires.scene.base.sound.fields s.of_field).alone.wide in
    let low : s.field.width ≤ 64 = w.1 in
    omega (arith, s.some_bit, s.in_field)

pub returns-clause-laid : goal.returns-clause-laid
returns-clause-laid c =
    let b = c.args.scene.now.base.now.block.now in
    let a = c.args.scene.now.base.now.inlet in
    let u = c.view_at-view.result.now in
    let f = field_there b c.args.slot u c.requires.slot c.view_at-view.ensures in
    let at = (c.requires.scene.values u.field f.0 f.1).worth in
    let value = subst (λ i. IsWorth b a c.args.net.now i (item_width b (item.Field u.field)) (λ n v. v (item.Field u.field))) (sym c.node-value.ensures) at in
    slot_made b a c.args.net.now c.slice.new.net c.laid.new.net c.args.slot u c.node-value.result c.in_ok-bits.bits c.args.stack c.in_ok-all.all
    (item_width b (item.Field u.field)) c.requires.slot.some_bit c.view_at-view.ensures c.if-not-view.false c.in_ok-bits.ensures.older c.in_ok-all.ensures.older
    value c.in_ok-bits.ensures.node c.in_ok-all.ensures.laid c.in_ok-all.ensures.within

use Rattle.std.proofs.Common.{◌≡◌, ◌∙◌, ap}
use Rattle.rb_model.specs.declared.block.Slot.{Slot}
use Rattle.gen_access.specs.Effects.{has_effect, reached_by, slot_effect, width_of}
use Rattle.gen_access.proofs.Loops.{slots_next, slots_end, slots_start}
use Rattle.gen_access.proofs.Turns.{HasViews-grows}
use Rattle.gen_access.proofs.software.put_word.Goals as goal

abbrev no_slot : Slot
no_slot = record { view = 0; low = 0; from = 0; bits = 0 }

pub put_slot-requires-clause-views : goal.put_slot-requires-clause-views
put_slot-requires-clause-views c = HasViews-grows c.args.net.now c.loop-slot.net c.args.scene.now c.loop-slot.invariant.older c.requires.views

pub loop-slot-init : goal.loop-slot-init
loop-slot-init c =
    let b = c.args.scene.now.base.now.block.now in
    let e = c.args.effect in
    slots_start b c.args.scene.now.base.now.inlet c.args.net.now c.args.table.now (width_of e) (reached_by e) (slot_effect b e) (has_effect e) c.args.hit c.deref-slot-items.result.now c.requires.table

pub loop-slot-preserved : goal.loop-slot-preserved
loop-slot-preserved c =
    let b = c.args.scene.now.base.now.block.now in
    let e = c.args.effect in
    slots_next b c.args.scene.now.base.now.inlet c.args.net.now c.args.table.now (width_of e) (reached_by e) (slot_effect b e) (has_effect e) c.args.hit c.deref-slot-items.result.now
    c.loop-slot.net c.put_slot.new.net c.loop-slot.table c.put_slot.new.table c.loop-slot.slot-index no_slot c.loop-slot-test.true c.loop-slot.invariant
    c.in_ok-put_slot.ensures.older c.in_ok-put_slot.ensures.name c.in_ok-put_slot.ensures.table c.in_ok-put_slot.ensures.changes

pub returns-clause-changes : goal.returns-clause-changes
returns-clause-changes c =
    let b = c.args.scene.now.base.now.block.now in
    let e = c.args.effect in
    let same : c.deref-slot-items.result.now ≡ c.args.word.now.slots = c.deref-slot-items.ensures.value ∙ ap (λ w. w.slots) c.word.view_is in
    slots_end b c.args.scene.now.base.now.inlet c.args.net.now c.args.table.now (width_of e) (reached_by e) (slot_effect b e) (has_effect e) c.args.hit c.deref-slot-items.result.now
    c.loop-slot.net c.loop-slot.table c.loop-slot.slot-index c.args.word.now.slots same c.loop-slot-test.false c.loop-slot.invariant

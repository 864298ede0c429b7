use Rattle.std.proofs.Common.{◌≡◌, ap, ◌∙◌}
use Rattle.rb_model.specs.declared.block.Slot.{Slot}
use Rattle.gen_clock.proofs.Edging.{IsScene-grows}
use Rattle.gen_clock.proofs.Answering.{data_all, data_more, data_none}
use Rattle.gen_clock.proofs.answers.word_data.Goals as goal

abbrev no_slot : Slot
no_slot = record { view = 0; low = 0; from = 0; bits = 0 }

pub loop-slot-init : goal.loop-slot-init
loop-slot-init c = data_none c.args.scene.now.base.now.block.now c.args.scene.now.base.now.inlet c.args.net.now c.deref-slot-items.result.now

pub slot_data-requires-clause-scene : goal.slot_data-requires-clause-scene
slot_data-requires-clause-scene c = IsScene-grows c.args.net.now c.loop-slot.net c.args.scene.now c.loop-slot.invariant.older c.requires.scene

pub loop-slot-preserved : goal.loop-slot-preserved
loop-slot-preserved c =
    data_more c.args.scene.now.base.now.block.now c.args.scene.now.base.now.inlet c.args.net.now c.loop-slot.net c.slot_data.new.net c.loop-slot.stack c.in_ok-stack.stack c.deref-slot-items.result.now c.loop-slot.slot-index no_slot
    c.loop-slot-test.true c.loop-slot.invariant c.in_ok-stack.ensures.older c.in_ok-stack.ensures.name c.in_ok-stack.ensures.laid

pub returns-clause-worth : goal.returns-clause-worth
returns-clause-worth c =
    let same : c.deref-slot-items.result.now ≡ c.args.word.now.slots = c.deref-slot-items.ensures.value ∙ ap (λ w. w.slots) c.word.view_is in
    data_all c.args.scene.now.base.now.block.now c.args.scene.now.base.now.inlet c.args.net.now c.loop-slot.net c.word_of.new.net c.loop-slot.stack c.in_ok-id.id c.deref-slot-items.result.now c.args.word.now.slots c.loop-slot.slot-index same
    c.loop-slot-test.false c.loop-slot.invariant c.in_ok-id.ensures.older c.in_ok-id.ensures.node

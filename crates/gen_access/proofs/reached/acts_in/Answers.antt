use Rattle.std.proofs.Common.{◌≡◌, ◌∙◌, ◌||◌, sym, ap, get_or}
use Rattle.std.specs.List.{list_any}
use Rattle.std.proofs.lemmas.List.{take_all}
use Rattle.std.proofs.lemmas.List.Folds.{list_any_at, list_any_more}
use Rattle.rb_model.specs.declared.block.Slot.{Slot}
use Rattle.rb_model.specs.Sound.{view_passes}
use Rattle.gen_access.specs.Words.{acts_through}
use Rattle.gen_access.proofs.Turns.{slot_fits}
use Rattle.gen_access.proofs.reached.acts_in.Goals as goal

abbrev no_slot : Slot
no_slot = record { view = 0; low = 0; from = 0; bits = 0 }

pub acts_at-requires : goal.acts_at-requires
acts_at-requires c =
    let same : c.deref-slot-items.result.now ≡ c.args.word.now.slots = c.deref-slot-items.ensures.value ∙ ap (λ w. w.slots) c.word.view_is in
    slot_fits c.args.block.now c.args.word.now c.deref-slot-items.result.now c.loop-slot.slot-index no_slot c.requires same c.loop-slot-test.true

pub returns-then-acts_at : goal.returns-then-acts_at
returns-then-acts_at c =
    let p = view_passes c.args.block.now (acts_through c.args.way) in
    let same : c.deref-slot-items.result.now ≡ c.args.word.now.slots = c.deref-slot-items.ensures.value ∙ ap (λ w. w.slots) c.word.view_is in
    sym (ap (list_any p) (sym same) ∙ list_any_at p c.deref-slot-items.result.now c.loop-slot.slot-index no_slot c.loop-slot-test.true (sym c.acts_at.ensures ∙ c.if-acts_at.true))

pub loop-slot-preserved : goal.loop-slot-preserved
loop-slot-preserved c =
    let p = view_passes c.args.block.now (acts_through c.args.way) in
    list_any_more p c.deref-slot-items.result.now c.loop-slot.slot-index no_slot c.loop-slot-test.true
    ∙ (ap (λ a. a || p (get_or c.deref-slot-items.result.now c.loop-slot.slot-index no_slot)) c.loop-slot.invariant ∙ (sym c.acts_at.ensures ∙ c.if-acts_at.false))

pub returns : goal.returns
returns c =
    let p = view_passes c.args.block.now (acts_through c.args.way) in
    let same : c.deref-slot-items.result.now ≡ c.args.word.now.slots = c.deref-slot-items.ensures.value ∙ ap (λ w. w.slots) c.word.view_is in
    sym (ap (list_any p) (sym same) ∙ (ap (list_any p) (sym (take_all c.loop-slot.slot-index c.deref-slot-items.result.now c.loop-slot-test.false)) ∙ c.loop-slot.invariant))

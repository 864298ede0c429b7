use Rattle.std.proofs.Common.{◌≡◌, ◌∙◌, false, ap, refl, length}
use Rattle.std.specs.Vec.{with_items}
use Rattle.std.proofs.lemmas.List.{with_items_is}
use Rattle.rb_model.specs.Run.{pins_of}
use Rattle.rb_machine.specs.Transfers.{bus_seen}
use Rattle.rb_machine.proofs.Holding.{stays, map_held}
use Rattle.rb_machine.proofs.bus.hold.Goals as goal

pub returns-then-bus-eq0-clause-map : goal.returns-then-bus-eq0-clause-map
returns-then-bus-eq0-clause-map c =
    let b = c.args.block.now in
    let old = c.args.held.now in
    let written = with_items_is old.fields c.hold_fields.new.states (c.hold_fields.auto.states ∙ c.deref_mut.ensures.len) in
    let z : c.args.bus.now.resetn ≡ 0 = c.if-bus-eq0.true in
    map_held b (pins_of b c.args.pins.now) (bus_seen c.args.bus.now) old (record { fields = with_items old.fields c.hold_fields.new.states; waited = false; «data» = 0; error = false })
    c.requires.fields (ap length written ∙ (c.hold_fields.auto.states ∙ ap length c.deref_mut.ensures.value)) (λ k f here. rw (written, ← c.deref_mut.ensures.value) (c.hold_fields.ensures.reset k f here))
    (rw z refl) (rw z refl) (rw z refl)

pub returns-else-bus-eq0-clause-map : goal.returns-else-bus-eq0-clause-map
returns-else-bus-eq0-clause-map c =
    let b = c.args.block.now in
    let old = c.args.held.now in
    let written = with_items_is old.fields c.hold_fields.new.states (c.hold_fields.auto.states ∙ c.deref_mut.ensures.len) in
    let r = c.args.bus.now.resetn in
    map_held b (pins_of b c.args.pins.now) (bus_seen c.args.bus.now) old (record { fields = with_items old.fields c.hold_fields.new.states; waited = old.waited; «data» = old.«data»; error = old.error })
    c.requires.fields (ap length written ∙ (c.hold_fields.auto.states ∙ ap length c.deref_mut.ensures.value)) (λ k f here. rw (written, ← c.deref_mut.ensures.value) (c.hold_fields.ensures.reset k f here))
    (stays r _ c.if-bus-eq0.false) (stays r _ c.if-bus-eq0.false) (stays r _ c.if-bus-eq0.false)

pub returns-then-bus-eq0-clause-still : goal.returns-then-bus-eq0-clause-still
returns-then-bus-eq0-clause-still c e =
    with_items_is c.args.held.now.fields c.hold_fields.new.states (c.hold_fields.auto.states ∙ c.deref_mut.ensures.len) ∙ (c.hold_fields.ensures.still e ∙ c.deref_mut.ensures.value)

pub returns-else-bus-eq0-clause-still : goal.returns-else-bus-eq0-clause-still
returns-else-bus-eq0-clause-still c e =
    with_items_is c.args.held.now.fields c.hold_fields.new.states (c.hold_fields.auto.states ∙ c.deref_mut.ensures.len) ∙ (c.hold_fields.ensures.still e ∙ c.deref_mut.ensures.value)

use Rattle.std.proofs.Common.{◌≡◌, ◌∙◌, ℕ, false, List, [], ◌∷◌, refl, sym, ap, subst, length, map, slice_index, arith, rules}
use Rattle.std.proofs.lemmas.List.{length-map, with_items_is}
use Rattle.rb_model.specs.declared.block.Field.{Field}
use Rattle.rb_model.specs.Items.{NoAccess}
use Rattle.rb_model.specs.Ports.{input_pins, outlets}
use Rattle.rb_model.proofs.EdgeWidths.{after_fits}
use Rattle.rb_machine.specs.Machines.{at_edge, held_map}
use Rattle.rb_model.proofs.InputPins.{outlet_pin, output_pins_are}
use Rattle.rb_machine.proofs.Stepping.{edge_made}
use Rattle.rb_machine.proofs.Narrow.{fits_length, narrow_pins}
use Rattle.rb_model.specs.declared.block.Block.{Block}
use Rattle.block_plan.specs.declared.outlets.Outlet.{Outlet}
use Rattle.block_plan.specs.Outlets.{outlet_seen}
use Rattle.rb_model.specs.Run.{pins_of}
use Rattle.rb_model.specs.Sound.{IsSound}
use Rattle.block_plan.specs.Plan.{IsPlanOf}
use Rattle.rb_machine.specs.declared.scene.EdgeState.{EdgeState}
use Rattle.rb_machine.specs.declared.sight.FieldState.{FieldState}
use Rattle.rb_model.specs.Machine.{is_asserted}
use Rattle.rb_machine.specs.Keeping.{AreMarksOf, AreMoving}
use Rattle.rb_machine.specs.Moves.{kept_state, started_state}
use Rattle.rb_machine.specs.Plain.{AreSteps}
use Rattle.rb_machine.specs.Quiet.{AreNextBusy, brief_of}
use Rattle.rb_machine.specs.Resets.{AreWays, NoneReset}
use Rattle.rb_machine.proofs.Reaching.{still_left}
use Rattle.rb_machine.proofs.Resting.{next_kept}
use Rattle.rb_machine.proofs.Sourcing.{sources_of}
use Rattle.rb_machine.specs.Scene.{AreStrobes, HoldsKept, IsEdgeState, state_at}
use Rattle.rb_machine.specs.Slots.{access_state}
use Rattle.block_plan.specs.Wanted.{AreInOrder}
use Rattle.rb_machine.specs.Table.{place_of, values_of}
use Rattle.rb_machine.specs.Transfers.{access_seen}
use Rattle.rb_machine.proofs.machine.Machine.step.Goals as goal

mapped : {X Y Z : Type 0} (f : Y → Z) (g : X → Y) (xs : List X) → map f (map g xs) ≡ map (λ x. f (g x)) xs
mapped f g [] = refl
mapped f g (x ∷ xs) = ap (λ ys. f (g x) ∷ ys) (mapped f g xs)

items_seen : (b : Block) (os : List Outlet) → map outlet_seen os ≡ outlets b → map (λ o. o.item) os ≡ map (λ o. o.item) (outlets b)
items_seen b os e = sym (mapped (λ o. o.item) outlet_seen os) ∙ ap (map (λ o. o.item)) e

values_shown : (table : List ℕ) (os : List Outlet) (places : List ℕ) → places ≡ map (λ o. place_of o.item) os → map (slice_index table) places ≡ map (values_of table) (map (λ o. o.item) os)
values_shown table os places e = ap (map (slice_index table)) e ∙ (mapped (slice_index table) (λ o. place_of o.item) os ∙ sym (mapped (values_of table) (λ o. o.item) os))

pub observe-vector-requires-clause-sized : goal.observe-vector-requires-clause-sized
observe-vector-requires-clause-sized c = fits_length (input_pins c.args.self.now.block.now) c.args.pins.now c.requires.pins

pub observe-vector-requires-clause-narrow : goal.observe-vector-requires-clause-narrow
observe-vector-requires-clause-narrow c = narrow_pins c.args.self.now.block.now c.requires.ready.sound c.args.pins.now c.requires.pins

pub observe-vector-requires-clause-ways : goal.observe-vector-requires-clause-ways
observe-vector-requires-clause-ways c = subst (AreWays c.args.self.now.block.now.fields) (sym c.deref.ensures.value) c.requires.ready.resets

pub mark_access-requires-clause-last : goal.mark_access-requires-clause-last
mark_access-requires-clause-last c = c.requires.ready.last

pub mark_access-requires-clause-marks : goal.mark_access-requires-clause-marks
mark_access-requires-clause-marks c = subst (AreMarksOf c.args.self.now.block.now (access_seen c.args.self.now.last)) (sym c.deref_mut-2.ensures.value) c.requires.ready.marked

pub show-requires : goal.show-requires
show-requires c =
    let s = c.args.self.now in
    let b = s.block.now in
    let o = ap length (output_pins_are b) in
    let i : length c.deref-12.result.now ≡ length (outlets b)
    = ap length (c.deref-12.ensures.value ∙ c.requires.ready.shown) ∙ (length-map s.plan.outlets.items (λ o. place_of o.item) ∙ (sym (length-map s.plan.outlets.items outlet_seen) ∙ ap length c.requires.ready.planned.outlets)) in
    omega (arith, c.requires.outs, o, length-map (outlets b) outlet_pin, i)

is_scene : (s : EdgeState) (x : List ℕ) → IsSound s.block.now → IsPlanOf s.block.now s.plan.now → s.pins.now ≡ x → length x ≡ length (input_pins s.block.now) → length s.held.now.fields.items ≡ length s.block.now.fields
    → s.briefs.now ≡ map brief_of s.block.now.fields → AreNextBusy s.block.now.fields s.next.now → AreSteps s.block.now.fields s.plan.now.fields.items s.steps.now → (held : List FieldState) → HoldsKept s.block.now.fields held → (s.is_reset ≡ false → s.held.now.fields.items ≡ held)
    → (s.is_reset ≡ false → NoneReset s.block.now (pins_of s.block.now x)) → IsEdgeState s
is_scene s x sound planned pins long sized briefs next steps held kept still calm = record {
  sound = sound;
  planned = planned;
  pins = ap length pins ∙ long;
  held = sized;
  briefs = briefs;
  next = next;
  steps = steps;
  kept = λ e. subst (HoldsKept s.block.now.fields) (sym (still e)) kept;
  calm = λ e. subst (λ (y : List ℕ). NoneReset s.block.now (pins_of s.block.now y)) (sym pins) (calm e);
}

pub settle-requires-clause-scene : goal.settle-requires-clause-scene
settle-requires-clause-scene c =
    let s = c.args.self.now in
    let pins = with_items_is s.pins c.observe-vector.new.pins (c.observe-vector.auto.pins ∙ c.deref_mut.ensures.len) ∙ c.observe-vector.ensures.pins in
    is_scene _ c.args.pins.now c.requires.ready.sound c.requires.ready.planned (c.deref-2.ensures.value ∙ pins) (fits_length (input_pins s.block.now) c.args.pins.now c.requires.pins)
    c.observe-vector.ensures.fields (c.deref-4.ensures.value ∙ c.requires.ready.briefs) (subst (AreNextBusy s.block.now.fields) (sym c.deref-5.ensures.value) c.requires.ready.next) (subst (AreSteps s.block.now.fields s.plan.fields.items) (sym c.deref-6.ensures.value) c.requires.ready.steps) s.held.fields.items c.requires.ready.kept c.observe-vector.ensures.still c.observe-vector.ensures.calm

pub settle-requires-clause-sources : goal.settle-requires-clause-sources
settle-requires-clause-sources c =
    let s = c.args.self.now in
    sources_of s.block.now s.order.items c.deref-8.result.now s.sources.items c.deref-7.result.now c.deref-8.ensures.value c.deref-7.ensures.value c.requires.ready.sources

pub settle-requires-clause-places : goal.settle-requires-clause-places
settle-requires-clause-places c = c.deref-9.ensures.value ∙ (c.requires.ready.places ∙ ap (map place_of) (sym c.deref-8.ensures.value))

pub move_fields-requires-clause-scene : goal.move_fields-requires-clause-scene
move_fields-requires-clause-scene c =
    let s = c.args.self.now in
    let pins = with_items_is s.pins c.observe-vector.new.pins (c.observe-vector.auto.pins ∙ c.deref_mut.ensures.len) ∙ c.observe-vector.ensures.pins in
    is_scene _ c.args.pins.now c.requires.ready.sound c.requires.ready.planned (c.deref-2.ensures.value ∙ pins) (fits_length (input_pins s.block.now) c.args.pins.now c.requires.pins)
    c.observe-vector.ensures.fields (c.deref-4.ensures.value ∙ c.requires.ready.briefs) (subst (AreNextBusy s.block.now.fields) (sym c.deref-5.ensures.value) c.requires.ready.next) (subst (AreSteps s.block.now.fields s.plan.fields.items) (sym c.deref-6.ensures.value) c.requires.ready.steps) s.held.fields.items c.requires.ready.kept c.observe-vector.ensures.still c.observe-vector.ensures.calm

pub returns-clause-edge : goal.returns-clause-edge
returns-clause-edge c =
    let s = c.args.self.now in
    let b = s.block.now in
    let a = access_seen c.observe-vector.result.transfer.access in
    let pins = with_items_is s.pins c.observe-vector.new.pins (c.observe-vector.auto.pins ∙ c.deref_mut.ensures.len) ∙ c.observe-vector.ensures.pins in
    let marked = with_items_is s.marks c.mark_access.new.marks (c.mark_access.auto.marks ∙ c.deref_mut-2.ensures.len) in
    let marks : AreStrobes b a c.deref-3.result.now = subst (AreStrobes b a) (sym (c.deref-3.ensures.value ∙ marked)) c.mark_access.ensures.strobes in
    let table = with_items_is s.table c.settle.new.table (c.settle.auto.table ∙ c.deref_mut-3.ensures.len) in
    let states = with_items_is s.states c.move_fields.new.states (c.move_fields.auto.states ∙ c.deref_mut-4.ensures.len) in
    let listed = subst (AreInOrder b c.requires.ready.wanted) (sym c.deref-8.ensures.value) c.requires.ready.listed in
    edge_made b (held_map s) c.args.pins.now c.deref-2.result.now c.settle.new.table c.deref-10.result.now c.deref-11.result.now c.deref-13.result.now c.requires.ready.wanted c.deref-8.result.now c.move_fields.new.states c.deref-15.result.now
    c.observe-vector.new.held c.commit.new.held c.observe-vector.result.transfer c.answer-answered.result c.outs_shown-bus_outs.result (map (λ o. o.item) s.plan.outlets.items) c.show.new.outs
    c.requires.ready.sound c.requires.ready.needs listed
    (c.deref-2.ensures.value ∙ pins) (c.deref-10.ensures.value ∙ table) (c.deref-11.ensures.value ∙ table) (c.deref-13.ensures.value ∙ table) (c.deref-15.ensures.value ∙ states)
    (c.move_fields.auto.states ∙ (ap length c.deref_mut-4.ensures.value ∙ (ap length c.requires.ready.states ∙ c.requires.ready.held)))
    c.observe-vector.ensures.held c.observe-vector.ensures.transfer (λ v vals. c.settle.ensures a v marks vals) c.move_fields.ensures c.answer-answered.ensures c.outs_shown-bus_outs.ensures
    (items_seen b s.plan.outlets.items c.requires.ready.planned.outlets) (c.show.ensures ∙ ap (λ xs. c.outs_shown-bus_outs.result.ready ∷ c.outs_shown-bus_outs.result.«data» ∷ c.outs_shown-bus_outs.result.error ∷ xs) (values_shown c.deref-13.result.now s.plan.outlets.items c.deref-12.result.now (c.deref-12.ensures.value ∙ c.requires.ready.shown))) c.commit.ensures.fields c.commit.ensures.waited c.commit.ensures.answer c.commit.ensures.error

pub returns-clause-fits : goal.returns-clause-fits
returns-clause-fits c fits = after_fits c.args.self.now.block.now c.requires.ready.sound (held_map c.args.self.now) fits c.args.pins.now c.requires.pins c.show.new.outs _ (returns-clause-edge c)

pub move_fields-requires-clause-held : goal.move_fields-requires-clause-held
move_fields-requires-clause-held c e = c.deref_mut-4.ensures.value ∙ (c.requires.ready.states ∙ sym (c.observe-vector.ensures.still e))

pub commit-requires-clause-there : goal.commit-requires-clause-there
commit-requires-clause-there c = c.observe-vector.ensures.transfer.there

pub commit-requires-clause-moving : goal.commit-requires-clause-moving
commit-requires-clause-moving c = subst (AreMoving c.args.self.now.block.now.fields) (sym c.deref-14.ensures.value) c.requires.ready.moving

pub commit-requires-clause-room : goal.commit-requires-clause-room
commit-requires-clause-room c =
    let states = with_items_is c.args.self.now.states c.move_fields.new.states (c.move_fields.auto.states ∙ c.deref_mut-4.ensures.len) in
    ap length (c.deref-15.ensures.value ∙ states) ∙ (c.move_fields.auto.states ∙ (ap length c.deref_mut-4.ensures.value ∙ (ap length c.requires.ready.states ∙ c.requires.ready.held)))

pub commit-requires-clause-still : goal.commit-requires-clause-still
commit-requires-clause-still c calm k f here quiet none =
    let s = c.args.self.now in
    let pins = with_items_is s.pins c.observe-vector.new.pins (c.observe-vector.auto.pins ∙ c.deref_mut.ensures.len) ∙ c.observe-vector.ensures.pins in
    let states = with_items_is s.states c.move_fields.new.states (c.move_fields.auto.states ∙ c.deref_mut-4.ensures.len) in
    let held = c.observe-vector.new.held in
    let n = at_edge s.block.now c.deref-2.result.now held NoAccess in
    let free : is_asserted s.block.now n.pins f.reset_by ≡ false
    = subst (λ (y : List ℕ). NoneReset s.block.now (pins_of s.block.now y)) (sym (c.deref-2.ensures.value ∙ pins)) (c.observe-vector.ensures.calm calm) k f here in
    let kept : kept_state f (state_at held.fields.items k) ≡ state_at held.fields.items k = subst (HoldsKept s.block.now.fields) (sym (c.observe-vector.ensures.still calm)) c.requires.ready.kept k f here in
    still_left s.block.now c.requires.ready.sound n (values_of c.deref-10.result.now) k f here quiet free (state_at held.fields.items k) kept (access_seen c.observe-vector.result.transfer.access) none
    (state_at c.deref-15.result.now k) (ap (λ xs. state_at xs k) (c.deref-15.ensures.value ∙ states) ∙ c.move_fields.ensures k f here)

pub returns-clause-ready : goal.returns-clause-ready
returns-clause-ready c =
    let s = c.args.self.now in
    let ready = c.requires.ready in
    let states = with_items_is s.states c.move_fields.new.states (c.move_fields.auto.states ∙ c.deref_mut-4.ensures.len) in
    let held = c.observe-vector.new.held in
    let n = at_edge s.block.now c.deref-2.result.now held NoAccess in
    let v = values_of c.deref-10.result.now in
    let left : ℕ → Field → FieldState = λ k f. access_state s.block.now n v (access_seen c.observe-vector.result.transfer.access) k (started_state n v k f (state_at held.fields.items k)) in
    let kept : HoldsKept s.block.now.fields c.move_fields.new.states = next_kept s.block.now n v left c.move_fields.new.states c.move_fields.ensures in
    record {
      sound = ready.sound;
      planned = ready.planned;
      held = search rules;
      resets = ready.resets;
      briefs = ready.briefs;
      next = ready.next;
      steps = ready.steps;
      moving = ready.moving;
      shown = ready.shown;
      sources = ready.sources;
      kept = subst (HoldsKept s.block.now.fields) (sym (c.commit.ensures.fields ∙ (c.deref-15.ensures.value ∙ states))) kept;
      pins = search rules;
      last = c.observe-vector.ensures.transfer.there;
      marks = search rules;
      marked = subst (AreMarksOf s.block.now (access_seen c.observe-vector.result.transfer.access)) (sym (with_items_is s.marks c.mark_access.new.marks (c.mark_access.auto.marks ∙ c.deref_mut-2.ensures.len))) c.mark_access.ensures.marks;
      states = sym (c.commit.ensures.fields ∙ c.deref-15.ensures.value);
      wanted = ready.wanted;
      needs = ready.needs;
      listed = ready.listed;
      places = ready.places;
      room = search rules;
    }

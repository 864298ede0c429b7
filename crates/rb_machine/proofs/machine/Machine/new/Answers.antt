use Rattle.std.proofs.Common.{◌≡◌, List, map, rules, subst, sym, ℕ, zero, suc, false, ap, ◌∙◌, get_or, refl}
use lib.ListN.{replicate}
use Rattle.rb_model.specs.Kept.{Kept, Val, Last, Done, Waited, Data, Error}
use Rattle.v_design.specs.Expr.{bit_of}
use Rattle.rb_machine.specs.declared.scene.Held.{Held}
use Rattle.rb_machine.specs.declared.scene.Strobes.{Strobes}
use Rattle.rb_machine.specs.Keeping.{AreMoving}
use Rattle.rb_machine.specs.Scene.{map_of, mark_at, no_mark, no_state, state_at}
use Rattle.rb_machine.specs.Table.{place_of}
use Rattle.rb_model.specs.declared.block.Field.{Field}
use Rattle.rb_machine.specs.declared.sight.FieldState.{FieldState}
use Rattle.rb_machine.specs.Moves.{kept_state}
use Rattle.rb_machine.specs.Quiet.{AreNextBusy, brief_of}
use Rattle.block_plan.specs.Wanted.{AreInOrder}
use Rattle.rb_machine.specs.Resets.{AreWays}
use Rattle.rb_model.specs.declared.kinds.RefItem.{RefItem}
use Rattle.rb_machine.specs.Sources.{AreSources}
use Rattle.rb_machine.proofs.Begun.{steps_of}
use Rattle.rb_machine.proofs.Plainly.{fields_wide}
use Rattle.rb_machine.proofs.Resting.{none_kept}
use Rattle.rb_machine.proofs.machine.Machine.new.Goals as goal

get_or-replicate : {X : Type 0} (n : ℕ) (x : X) (k : ℕ) → get_or (replicate n x) k x ≡ x
get_or-replicate zero x k = refl
get_or-replicate (suc n) x zero = refl
get_or-replicate (suc n) x (suc k) = get_or-replicate n x k

zeros : (h : Held) (n : ℕ) → h.fields.items ≡ replicate n no_state → h.waited ≡ false → h.«data» ≡ 0 → h.error ≡ false → (k : Kept) → map_of h k ≡ 0
zeros h n f w d e (Val k) = ap (λ ss. (state_at ss k).value) f ∙ ap (λ s. s.value) (get_or-replicate n no_state k)
zeros h n f w d e (Last k) = ap (λ ss. (state_at ss k).last) f ∙ ap (λ s. s.last) (get_or-replicate n no_state k)
zeros h n f w d e (Done k) = ap (λ ss. (state_at ss k).done) f ∙ ap (λ s. s.done) (get_or-replicate n no_state k)
zeros h n f w d e Waited = ap bit_of w
zeros h n f w d e Data = d
zeros h n f w d e Error = ap bit_of e

pub returns-clause-zeros : goal.returns-clause-zeros
returns-clause-zeros c = zeros (record { fields = c.in_ok-no_states.field-0; waited = false; «data» = 0; error = false }) c.len-fields.result c.in_ok-no_states.ensures.items refl refl refl

-- where nothing is held
held_none : (states : List FieldState) (n : ℕ) → states ≡ replicate n no_state → (f : Field) (k : ℕ) → kept_state f (state_at states k) ≡ state_at states k
held_none states n e f k = let at : state_at states k ≡ no_state = ap (λ ss. state_at ss k) e ∙ get_or-replicate n no_state k in rw at (none_kept f)

-- where nothing is marked
unmarked : (marks : List Strobes) (n : ℕ) → marks ≡ replicate n no_mark → (k : ℕ) → mark_at marks k ≡ no_mark
unmarked marks n e k = ap (λ ms. mark_at ms k) e ∙ get_or-replicate n no_mark k

pub pin_steps-requires : goal.pin_steps-requires
pin_steps-requires c =
    let fields : c.deref-7.result.now ≡ c.args.block.now.fields = c.deref-7.ensures.value ∙ ap (λ b. b.fields) c.block.view_is in
    record { wide = fields_wide c.args.block.now c.requires c.deref-7.result.now fields }

pub returns-clause-ready : goal.returns-clause-ready
returns-clause-ready c =
    let b = c.args.block.now in
    let fields : c.deref-4.result.now ≡ b.fields = c.deref-4.ensures.value ∙ ap (λ b. b.fields) c.block.view_is in
    let again : c.deref-5.result.now ≡ b.fields = c.deref-5.ensures.value ∙ ap (λ b. b.fields) c.block.view_is in
    let third : c.deref-6.result.now ≡ b.fields = c.deref-6.ensures.value ∙ ap (λ b. b.fields) c.block.view_is in
    let fourth : c.deref-7.result.now ≡ b.fields = c.deref-7.ensures.value ∙ ap (λ b. b.fields) c.block.view_is in
    let fifth : c.deref-9.result.now ≡ b.fields = c.deref-9.ensures.value ∙ ap (λ b. b.fields) c.block.view_is in
    record {
      sound = c.requires;
      planned = c.in_ok-plan.ensures;
      held = search rules;
      resets = subst (λ (fs : List Field). AreWays fs c.in_ok-resets.resets.items) fields c.in_ok-resets.ensures;
      briefs = c.in_ok-briefs.ensures ∙ ap (map brief_of) again;
      next = subst (λ (fs : List Field). AreNextBusy fs c.in_ok-next.next.items) third c.in_ok-next.ensures;
      steps = steps_of b.fields c.deref-7.result.now c.in_ok-plan.plan.fields.items c.deref-8.result.now c.in_ok-steps.steps.items fourth c.deref-8.ensures.value c.in_ok-steps.ensures;
      moving = subst (λ (fs : List Field). AreMoving fs c.in_ok-moving.moving.items) fifth c.in_ok-moving.ensures;
      shown = c.in_ok-shown.ensures ∙ ap (map (λ o. place_of o.item)) c.deref-10.ensures.value;
      sources = subst (λ (is : List RefItem). AreSources b is c.in_ok-sources.sources.items) c.deref-11.ensures.value c.in_ok-sources.ensures;
      kept = λ k f here. held_none c.in_ok-no_states.field-0.items c.len-fields.result c.in_ok-no_states.ensures.items f k;
      pins = search rules;
      last = tt;
      marks = search rules;
      marked = λ k none. unmarked c.in_ok-no_marks.field-0.items c.len-fields.result c.in_ok-no_marks.ensures.items k;
      states = c.in_ok-no_states-2.ensures.items ∙ sym c.in_ok-no_states.ensures.items;
      wanted = c.in_ok-needed.needed.items;
      needs = c.in_ok-needed.ensures.all;
      listed = subst (λ w. AreInOrder b w c.in_ok-order.order.items) c.deref.ensures.value c.in_ok-order.ensures;
      places = c.in_ok-places.ensures ∙ ap (map place_of) c.deref-2.ensures.value;
      room = search rules;
    }

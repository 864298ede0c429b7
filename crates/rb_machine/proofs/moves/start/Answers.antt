use Rattle.std.proofs.Common.{arith, ◌∙◌, ap, refl, sym, ◌+◌, ℕ, if◌then◌else◌}
use Rattle.rb_model.specs.declared.block.Field.{Field}
use Rattle.rb_model.specs.Items.{NoAccess}
use Rattle.rb_machine.specs.declared.sight.FieldState.{FieldState}
use Rattle.rb_machine.specs.Moves.{started_state}
use Rattle.rb_machine.specs.Quiet.{rests}
use Rattle.rb_machine.specs.Scene.{now_in, state_at}
use Rattle.rb_machine.specs.Table.{values_of}
use Rattle.rb_machine.proofs.Moving.{later_past, later_stays, moved_all, moved_more, moved_past}
use Rattle.rb_machine.proofs.moves.start.Goals as goal

pub loop-number-init : goal.loop-number-init
loop-number-init c =
    let s = c.args.scene.now in
    let n = now_in s NoAccess in
    let v = values_of c.args.table.now in
    let old = c.args.states.now in
    let g : ℕ → Field → FieldState = λ k f. if rests s.is_reset f then state_at old k else started_state n v k f (state_at s.held.now.fields.items k) in
    record {
      moved = moved_past s.block.now g old 0 c.awake_from-number.result
          (λ k f from to here. ap (λ r. if r then state_at old k else started_state n v k f (state_at s.held.now.fields.items k)) (sym (c.awake_from-number.ensures.rest k f from to here)))
          (λ k f low here. absurd (omega (arith, low)));
      later = λ k l. refl;
      awake = c.awake_from-number.ensures.awake;
    }

pub loop-number-preserved : goal.loop-number-preserved
loop-number-preserved c =
    let s = c.args.scene.now in
    let i = c.loop-number.number in
    let n = now_in s NoAccess in
    let v = values_of c.args.table.now in
    let old = c.args.states.now in
    let g : ℕ → Field → FieldState = λ k f. if rests s.is_reset f then state_at old k else started_state n v k f (state_at s.held.now.fields.items k) in
    let moved = moved_more s.block.now g c.loop-number.states i c.started.result (omega (arith, c.loop-number-test.true, c.loop-number.auto.states))
    (λ f here. c.started.ensures f here ∙ sym (ap (λ r. if r then state_at old i else started_state n v i f (state_at s.held.now.fields.items i)) (c.loop-number.invariant.awake f here)))
    c.loop-number.invariant.moved in
    let later = later_stays c.loop-number.states old i c.started.result c.loop-number.invariant.later in
    record {
      moved = moved_past s.block.now g _ (i + 1) c.awake_from-number-in-loop-number.result
          (λ k f from to here. later k from ∙ ap (λ r. if r then state_at old k else started_state n v k f (state_at s.held.now.fields.items k)) (sym (c.awake_from-number-in-loop-number.ensures.rest k f from to here)))
          moved;
      later = later_past _ old (i + 1) c.awake_from-number-in-loop-number.result c.awake_from-number-in-loop-number.ensures.onward later;
      awake = c.awake_from-number-in-loop-number.ensures.awake;
    }

pub returns : goal.returns
returns c =
    let s = c.args.scene.now in
    let n = now_in s NoAccess in
    let v = values_of c.args.table.now in
    let old = c.args.states.now in
    moved_all s.block.now (λ k f. if rests s.is_reset f then state_at old k else started_state n v k f (state_at s.held.now.fields.items k)) c.loop-number.states c.loop-number.number
    (omega (arith, c.loop-number-test.false, c.requires.sized)) c.loop-number.invariant.moved

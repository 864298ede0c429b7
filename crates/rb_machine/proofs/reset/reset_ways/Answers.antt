use Rattle.std.proofs.Common.{◌<◌, [], ◌∷◌, List, arith, length, refl, subst, sym}
use Rattle.std.specs.Prelude.{Contains}
use Rattle.std.proofs.lemmas.List.Elements.{Contains-append_left, Contains-append_right}
use Rattle.std.proofs.lemmas.Option.{slice_get_read, slice_get_within}
use Rattle.rb_model.specs.declared.kinds.ResetBy.{ResetBy}
use Rattle.rb_machine.proofs.Resetting.{ways_more}
use Rattle.rb_machine.proofs.reset.reset_ways.Goals as goal

pub loop-field-preserved-then-is_last : goal.loop-field-preserved-then-is_last
loop-field-preserved-then-is_last c =
    let fields = c.args.fields.now in
    let i = c.loop-field.field-index in
    let g = c.field-item.result in
    let ways = c.loop-field.ways.items in
    let there : Contains ways g.reset_by = subst (λ (ws : List ResetBy). Contains ws g.reset_by) c.deref.ensures.value (c.is_last.ensures c.if-is_last.true) in
    ways_more fields i g ways ways (slice_get_read fields (length fields) i g refl c.loop-field-test.true c.field-item.is) there (λ r h. h) c.loop-field.invariant

pub loop-field-preserved : goal.loop-field-preserved
loop-field-preserved c =
    let fields = c.args.fields.now in
    let i = c.loop-field.field-index in
    let g = c.field-item.result in
    let ways = c.loop-field.ways.items in
    let one : List ResetBy = g.reset_by ∷ [] in
    let within : (r : ResetBy) → Contains ways r → Contains c.push.new.self.items r
    = λ r h. subst (λ (ws : List ResetBy). Contains ws r) (sym c.in_ok-push.ensures.items) (Contains-append_left ways one r h) in
    let last : Contains c.push.new.self.items g.reset_by
    = subst (λ (ws : List ResetBy). Contains ws g.reset_by) (sym c.in_ok-push.ensures.items) (Contains-append_right ways one g.reset_by (0, omega arith, refl)) in
    ways_more fields i g ways c.push.new.self.items (slice_get_read fields (length fields) i g refl c.loop-field-test.true c.field-item.is) last within c.loop-field.invariant

pub returns : goal.returns
returns c k f here =
    let low : k < length c.args.fields.now = slice_get_within c.args.fields.now k f here in
    c.loop-field.invariant k f (omega (arith, low, c.loop-field-test.false)) here

use Rattle.std.proofs.Common.{◌≡◌, ◌≤◌, [], ◌∷◌, ◌∙◌, Some, length, slice_get, refl, sym, ap, subst}
use Rattle.std.proofs.lemmas.Option.{slice_get_read}
use Rattle.rb_model.specs.declared.kinds.RefItem.TheVariants as item
use Rattle.block_plan.specs.Needs.{field_needs, hardware_refs}
use Rattle.block_plan.specs.Wanted.{Adds}
use Rattle.block_plan.proofs.Needing.{all_needs, both_added, needs_more}
use Rattle.block_plan.proofs.needed.want_fields.Goals as goal

pub loop-index-preserved : goal.loop-index-preserved
loop-index-preserved c =
    let fields = c.args.block.now.fields in
    let read = c.deref-field-items.result.now in
    let e : read ≡ fields = c.deref-field-items.ensures.value ∙ ap (λ b. b.fields) c.block.view_is in
    let i = c.loop-index.index in
    let f = c.field-item.result in
    let v = c.loop-index.wanted in
    let w = c.want.new.wanted in
    let here : slice_get fields i ≡ Some f = ap (λ xs. slice_get xs i) (sym e) ∙ slice_get_read read (length read) i f refl c.loop-index-test.true c.field-item.is in
    needs_more field_needs fields c.args.wanted.now v c.want_hardware.new.wanted i f here c.loop-index.invariant
    (both_added v w c.want_hardware.new.wanted (item.Field i ∷ []) (hardware_refs f) (subst (λ n. Adds v w (item.Field n ∷ [])) c.in-Ok.ensures.1 c.want.ensures) c.want_hardware.ensures)

pub returns-clause-fields : goal.returns-clause-fields
returns-clause-fields c =
    let fields = c.args.block.now.fields in
    let e : c.deref-field-items.result.now ≡ fields = c.deref-field-items.ensures.value ∙ ap (λ b. b.fields) c.block.view_is in
    let past : length c.deref-field-items.result.now ≤ c.loop-index.index = c.loop-index-test.false in
    all_needs field_needs fields c.args.wanted.now c.loop-index.wanted c.loop-index.index (subst (λ xs. length xs ≤ c.loop-index.index) e past) c.loop-index.invariant

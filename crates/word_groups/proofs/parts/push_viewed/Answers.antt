use Rattle.std.proofs.Common.{◌≡◌, ◌∙◌, ◌++◌, ◌∷◌, [], None, Some, append-nil, ap, length, refl, slice_get, sym}
use Rattle.std.proofs.lemmas.Option.{slice_get_past, slice_get_read}
use Rattle.rb_model.specs.declared.block.Block.{Block}
use Rattle.word_groups.proofs.SlotParts.{no_field, part_found}
use Rattle.word_groups.proofs.parts.push_viewed.Goals as goal

pub returns-in-None : goal.returns-in-None
returns-in-None c =
    let b = c.args.block.now in
    let s = c.args.slot.now in
    let v = c.args.view.now in
    let fields : c.deref.result.now ≡ b.fields = c.deref.ensures.value ∙ ap (λ (w : Block). w.fields) c.block.view_is in
    let none : slice_get b.fields v.field ≡ None = ap (λ xs. slice_get xs v.field) (sym fields) ∙ slice_get_past c.deref.result.now v.field c.in-None.ensures.lookup.3 in
    sym (ap (λ ps. c.args.into.now.items ++ ps) (no_field b s v c.requires.view none) ∙ append-nil c.args.into.now.items)

pub part_in-requires-clause-in_field : goal.part_in-requires-clause-in_field
part_in-requires-clause-in_field c =
    let b = c.args.block.now in
    let v = c.args.view.now in
    let l = c.in-Some.ensures.lookup in
    let xs = c.deref.result.now in
    let fields : xs ≡ b.fields = c.deref.ensures.value ∙ ap (λ (w : Block). w.fields) c.block.view_is in
    let there : slice_get b.fields v.field ≡ Some c.in-Some.field.now = ap (λ ys. slice_get ys v.field) (sym fields) ∙ slice_get_read xs (length xs) v.field c.in-Some.field.now refl l.3.0 l.1 in
    c.requires.fits.in_field v c.in-Some.field.now c.requires.view there

pub returns-in_ok-push-in-Some : goal.returns-in_ok-push-in-Some
returns-in_ok-push-in-Some c =
    let b = c.args.block.now in
    let s = c.args.slot.now in
    let v = c.args.view.now in
    let l = c.in-Some.ensures.lookup in
    let xs = c.deref.result.now in
    let old = c.args.into.now.items in
    let fields : xs ≡ b.fields = c.deref.ensures.value ∙ ap (λ (w : Block). w.fields) c.block.view_is in
    let there : slice_get b.fields v.field ≡ Some c.in-Some.field.now = ap (λ ys. slice_get ys v.field) (sym fields) ∙ slice_get_read xs (length xs) v.field c.in-Some.field.now refl l.3.0 l.1 in
    c.in_ok-push-in-Some.ensures.items ∙ ap (λ p. old ++ p ∷ []) c.in_ok-part_in-in-Some.ensures ∙ ap (λ ps. old ++ ps) (sym (part_found b s v c.in-Some.field.now c.requires.view there))

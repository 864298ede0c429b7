use Rattle.std.proofs.Common.{◌≡◌, ◌∙◌, ◌++◌, None, append-nil, ap, length, refl, slice_get, sym}
use Rattle.std.proofs.lemmas.Option.{slice_get_past, slice_get_read}
use Rattle.rb_model.specs.declared.block.Block.{Block}
use Rattle.word_groups.proofs.SlotParts.{no_view}
use Rattle.word_groups.proofs.parts.push_part.Goals as goal

pub returns-in-None : goal.returns-in-None
returns-in-None c =
    let b = c.args.block.now in
    let s = c.args.slot.now in
    let views : c.deref.result.now ≡ b.views = c.deref.ensures.value ∙ ap (λ (v : Block). v.views) c.block.view_is in
    let none : slice_get b.views s.view ≡ None = ap (λ xs. slice_get xs s.view) (sym views) ∙ slice_get_past c.deref.result.now s.view c.in-None.ensures.lookup.3 in
    sym (ap (λ ps. c.args.into.now.items ++ ps) (no_view b s none) ∙ append-nil c.args.into.now.items)

pub push_viewed-requires-clause-view : goal.push_viewed-requires-clause-view
push_viewed-requires-clause-view c =
    let b = c.args.block.now in
    let s = c.args.slot.now in
    let l = c.in-Some.ensures.lookup in
    let xs = c.deref.result.now in
    let views : xs ≡ b.views = c.deref.ensures.value ∙ ap (λ (v : Block). v.views) c.block.view_is in
    ap (λ ys. slice_get ys s.view) (sym views) ∙ slice_get_read xs (length xs) s.view c.in-Some.view.now refl l.3.0 l.1

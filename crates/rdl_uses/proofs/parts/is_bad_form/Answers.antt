use Rattle.std.proofs.Common.{◌∙◌, not, ◌&&◌, ◌||◌, sym}
use Rattle.rdl_uses.proofs.Formed.{bad_as_read, none_left, same_field}
use Rattle.rdl_uses.proofs.parts.is_bad_form.Goals as goal

pub returns : goal.returns
returns c = λ u form dims.
    let i = c.args.inst.now in
    let field = c.eq-field.ensures ∙ same_field c.args.kind in
    let bare = c.is_empty.ensures ∙ none_left i.dims.now in
    (λ j. (not (field j) && (c.is_some.ensures j || c.is_some-2.ensures j)) || (c.is_unit.ensures j && (c.is_some-3.ensures j || c.is_some-4.ensures j || c.is_some-5.ensures j)) || (c.is_some-6.ensures j && c.is_some-7.ensures j) || (c.is_some-8.ensures j && bare j))
    ∙ sym (bad_as_read u i c.args.kind form dims)

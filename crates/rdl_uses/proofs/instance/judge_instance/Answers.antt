use Rattle.std.proofs.Common.{◌∙◌, sym, ap, subst, is_some}
use Rattle.rdl_failures.specs.Noted.{IsNoted}
use Rattle.rdl_uses.specs.Parts.{of_parts}
use Rattle.rdl_uses.proofs.Judging.{all_noted, alias_noted, form_noted, fresh_noted, held_there, many_noted, use_put}
use Rattle.rdl_uses.proofs.instance.judge_instance.Goals as goal

pub returns-clause-noted : goal.returns-clause-noted
returns-clause-noted c = λ s k seen holds given.
    let i = c.args.inst.now in
    let d = c.args.def.now in
    let a = c.args.alias.now in
    let p = c.args.parent in
    let v = c.args.visible.now in
    let e = c.args.earlier.now in
    let n1 = fresh_noted i d a p v e s k seen _ _ _ _ (c.has.ensures s.earlier seen.earlier_is) c.in_ok-fresh.ensures in
    let n2 = held_there i d a p v e s k seen _ _ _ _ (c.may_hold.ensures s.parent seen.parent_is.holder) c.in_ok-held.ensures in
    let parts = c.in_ok-dims.ensures.noted s.parent s.use_ seen.parent_is.standing seen.use_is in
    let of_kind = subst (λ kd. IsNoted (of_parts s.parent s.use_ kd) (is_some c.in_ok-dims.dims) c.note-2.new.self c.judge_parts.new.failures) (ap (λ d. d.kind) (sym seen.def)) parts in
    let n4 = subst (λ b. IsNoted (of_parts s.parent s.use_ k.def.kind) b c.note-2.new.self c.judge_parts.new.failures) (sym c.is_some.ensures) of_kind in
    let n5 = alias_noted i d a p v e s k seen _ _ _ _ c.is_single_reg-single.ensures (c.in_ok-aliased.ensures s.earlier seen.earlier_is) in
    let all = all_noted i d a p v e s k seen c.args.given c.args.failures.now holds given _ _ _ _ _ _ _ _ n1 n2 n4 n5 in
    let many = many_noted i d a p v e s k seen _ _ _ c.in_ok-note.ensures in
    let form = form_noted i d a p v e s k seen _ _ _ _ (c.is_bad_form.ensures s.use_ seen.use_is.form seen.use_is.dims) c.in_ok-note-2.ensures in
    (use_put i d a p v e s k seen _ _ _ _ _ _ _ all many form, c.kept.ensures.some ∙ all.none)

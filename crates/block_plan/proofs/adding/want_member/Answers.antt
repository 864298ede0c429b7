use Rattle.std.proofs.Common.{◌≡◌, ◌∙◌, true, if◌then◌else◌, [], ◌∷◌, sym, ap, subst}
use Rattle.rb_model.specs.declared.kinds.RefItem.TheVariants as item
use Rattle.rb_model.specs.References.{mask_refs}
use Rattle.block_plan.specs.Lines.{has_line, line_mask}
use Rattle.block_plan.specs.Wanted.{Adds}
use Rattle.block_plan.proofs.Needing.{both_added}
use Rattle.block_plan.proofs.adding.want_member.Goals as goal

pub returns : goal.returns
returns c =
    let w0 = c.args.wanted.now in
    let w1 = c.want.new.wanted in
    let w2 = c.want-2.new.wanted in
    let m = line_mask c.args.halt c.args.field.now in
    let e : has_line c.args.halt c.args.field.now ≡ true = sym c.has_line.ensures ∙ c.if-not-has_line.false in
    subst (λ o. Adds w0 w2 (if o then item.Field c.args.number ∷ mask_refs m else [])) (sym e)
    (both_added w0 w1 w2 (item.Field c.args.number ∷ []) (mask_refs m) c.want.ensures (subst (Adds w1 w2) (c.mask_item.ensures ∙ ap mask_refs c.line_mask.ensures) c.want-2.ensures))

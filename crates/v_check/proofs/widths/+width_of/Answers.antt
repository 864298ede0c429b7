use Rattle.std.proofs.Common.{◌≡◌, ◌++◌, append_assoc, map, take, ap, sym, ◌∙◌}
use Rattle.plain_lemmas.proofs.Lists.{map-append}
use Rattle.v_design.specs.Expr as expr
use Rattle.v_design.specs.Expr.{nets_of, nets_of_each}
use Rattle.v_design.specs.Seen.{expr_seen}
use Rattle.v_check.specs.Nets.{nets_seen, number_of, width_in}
use Rattle.v_check.specs.Sizes.{joined, sized_width}
use Rattle.v_check.proofs.Exprs.{listed, listed-more, listed-all, nets-behind, cat_seen}
use Rattle.v_check.proofs.Sizing.{cat-more}
use Rattle.v_check.proofs.widths.+width_of.Goals as goal

pub loop-part-preserved : goal.loop-part-preserved
loop-part-preserved t c =
    let ws = width_in (nets_seen c.args.nets.now) in
    let items = c.deref-part-items.result.now in
    let front = listed (take c.loop-part.part-index items) in
    let more = listed-more items c.loop-part.part-index c.part-item.result c.loop-part-test.true c.part-item.is in
    record {
      width = rw more
          (c.cat_width-total.ensures
          ∙ (ap (λ o. joined o c.in_ok-width-in-Cat.width) c.loop-part.invariant.width
          ∙ (ap (joined (sized_width ws (expr.Cat front))) c.in_ok-width-in-Cat.ensures.width ∙ cat-more ws front (expr_seen c.part-item.result))));
      uses = rw (more, nets-behind, map-append)
          (c.in_ok-width-in-Cat.ensures.uses ∙ (ap (λ l. l ++ map (number_of c.args.nets.now) (nets_of (expr_seen c.part-item.result))) c.loop-part.invariant.uses ∙ append_assoc c.args.uses.now.items _ _));
    }

pub returns-after-loop-part-clause-width : goal.returns-after-loop-part-clause-width
returns-after-loop-part-clause-width t c =
    let ws = width_in (nets_seen c.args.nets.now) in
    let whole : expr_seen c.args.expr.now ≡ expr.Cat (listed c.in-Cat.parts.items) = ap expr_seen c.in-Cat.is ∙ cat_seen c.in-Cat.parts in
    let all = listed-all c.deref-part-items.result.now c.in-Cat.parts.items c.loop-part.part-index c.loop-part-test.false c.deref-part-items.ensures.value in
    c.loop-part.invariant.width ∙ (ap (λ es. sized_width ws (expr.Cat es)) all ∙ ap (sized_width ws) (sym whole))

pub returns-after-loop-part-clause-uses : goal.returns-after-loop-part-clause-uses
returns-after-loop-part-clause-uses t c =
    let number = number_of c.args.nets.now in
    let old = c.args.uses.now.items in
    let whole : expr_seen c.args.expr.now ≡ expr.Cat (listed c.in-Cat.parts.items) = ap expr_seen c.in-Cat.is ∙ cat_seen c.in-Cat.parts in
    let all = listed-all c.deref-part-items.result.now c.in-Cat.parts.items c.loop-part.part-index c.loop-part-test.false c.deref-part-items.ensures.value in
    c.loop-part.invariant.uses ∙ (ap (λ es. old ++ map number (nets_of_each es)) all ∙ ap (λ e. old ++ map number (nets_of e)) (sym whole))

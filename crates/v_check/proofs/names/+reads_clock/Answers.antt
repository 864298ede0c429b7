use Rattle.std.specs.Str.{bytes_eq}
use Rattle.std.proofs.Common.{◌≡◌, ◌||◌, take, ap, sym, ◌∙◌}
use Rattle.plain_lemmas.proofs.Lists.{list_any-append}
use Rattle.v_design.specs.Expr as expr
use Rattle.v_design.specs.Expr.{nets_of, nets_of_each}
use Rattle.v_design.specs.Lexemes.{among}
use Rattle.v_design.specs.Seen.{expr_seen}
use Rattle.v_design.specs.WellFormed.{clock}
use Rattle.v_check.proofs.Exprs.{cat_seen, listed, listed-all, listed-more, nets-behind, part-among}
use Rattle.v_check.proofs.names.+reads_clock.Goals as goal

pub returns-then-reads_clock : goal.returns-then-reads_clock
returns-then-reads_clock t c =
    let items = c.deref-part-items.result.now in
    let whole : expr_seen c.args.expr.now ≡ expr.Cat (listed items) = ap expr_seen c.in-Cat.is ∙ (cat_seen c.in-Cat.parts ∙ ap (λ es. expr.Cat (listed es)) (sym c.deref-part-items.ensures.value)) in
    sym (ap (λ e. among (nets_of e) clock) whole ∙ part-among items c.loop-part.part-index c.part-item.result clock c.loop-part-test.true c.part-item.is (sym c.if-reads_clock.ensures))

pub loop-part-preserved : goal.loop-part-preserved
loop-part-preserved t c =
    rw (listed-more c.deref-part-items.result.now c.loop-part.part-index c.part-item.result c.loop-part-test.true c.part-item.is, nets-behind)
    (list_any-append (λ w. bytes_eq w clock) (nets_of_each (listed (take c.loop-part.part-index c.deref-part-items.result.now))) (nets_of (expr_seen c.part-item.result))
    ∙ (ap (λ b. b || among (nets_of (expr_seen c.part-item.result)) clock) c.loop-part.invariant ∙ sym c.if-reads_clock.ensures))

pub returns-after-loop-part : goal.returns-after-loop-part
returns-after-loop-part t c =
    let whole : expr_seen c.args.expr.now ≡ expr.Cat (listed c.in-Cat.parts.items) = ap expr_seen c.in-Cat.is ∙ cat_seen c.in-Cat.parts in
    let all = listed-all c.deref-part-items.result.now c.in-Cat.parts.items c.loop-part.part-index c.loop-part-test.false c.deref-part-items.ensures.value in
    sym (ap (λ e. among (nets_of e) clock) whole ∙ (ap (λ es. among (nets_of_each es) clock) (sym all) ∙ c.loop-part.invariant))

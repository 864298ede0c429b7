use Rattle.std.proofs.Common.{subst}
use Rattle.rdl_assignments.specs.Steady.{IsSteady}
use Rattle.rdl_assignments.proofs.SteadyEntries.{all_more, all_taken}
use Rattle.rdl_assignments.proofs.steady.are_steady.Goals as goal

pub loop-expr-preserved : goal.loop-expr-preserved
loop-expr-preserved c = λ v shown. all_more (IsSteady c.args.text.now.same_enums v) c.args.list.now c.loop-expr.expr-index c.expr-item.result c.loop-expr-test.true (c.loop-expr.invariant v shown)
    (subst (IsSteady c.args.text.now.same_enums v) c.expr-item.is (c.is_steady.ensures c.if-not-is_steady.false v shown))

pub returns : goal.returns
returns c = λ q v shown. all_taken (IsSteady c.args.text.now.same_enums v) c.args.list.now c.loop-expr.expr-index c.loop-expr-test.false (c.loop-expr.invariant v shown)

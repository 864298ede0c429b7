use Rattle.rdl_targets.proofs.Wants.{numbers_all, numbers_fail, numbers_more}
use Rattle.rdl_targets.proofs.matching.numbers_of.Goals as goal

pub returns-in_default : goal.returns-in_default
returns-in_default c = λ env shown. numbers_fail env c.args.list.now c.loop-expr.expr-index c.expr-item.result c.loop-expr.numbers.items c.in_default.field-0 c.loop-expr-test.true c.expr-item.is (c.loop-expr.invariant env shown) (c.in_default.ensures env shown)

pub loop-expr-preserved : goal.loop-expr-preserved
loop-expr-preserved c = λ env shown. numbers_more env c.args.list.now c.loop-expr.expr-index c.expr-item.result c.loop-expr.numbers.items c.push.new.self.items c.in-Ok.number c.loop-expr-test.true c.expr-item.is (c.loop-expr.invariant env shown) (c.in-Ok.ensures env shown) c.in_ok-push.ensures.items

pub returns : goal.returns
returns c = λ env shown. numbers_all env c.args.list.now c.loop-expr.expr-index c.loop-expr.numbers.items c.loop-expr-test.false (c.loop-expr.invariant env shown)

use Rattle.rdl_resolve.proofs.Numbers.{numbers_all, numbers_fail, numbers_more}
use Rattle.rdl_resolve.proofs.indices.numbers_of.Goals as goal

pub returns-in_default : goal.returns-in_default
returns-in_default c = λ around shown.
    numbers_fail around c.args.list.now c.loop-expr.expr-index c.expr-item.result c.loop-expr.numbers.items c.in_default.field-0 c.loop-expr-test.true c.expr-item.is (c.loop-expr.invariant around shown)
    (c.in_default.ensures around shown)

pub loop-expr-preserved : goal.loop-expr-preserved
loop-expr-preserved c = λ around shown.
    numbers_more around c.args.list.now c.loop-expr.expr-index c.expr-item.result c.loop-expr.numbers.items c.push.new.self.items c.in-Ok.number c.loop-expr-test.true c.expr-item.is (c.loop-expr.invariant around shown)
    (c.in-Ok.ensures around shown) c.in_ok-push.ensures.items

pub returns : goal.returns
returns c = λ around shown. numbers_all around c.args.list.now c.loop-expr.expr-index c.loop-expr.numbers.items c.loop-expr-test.false (c.loop-expr.invariant around shown)

use Rattle.std.proofs.Common.{◌∙◌, ap}
use Rattle.rdl_values.specs.Values.{number_of}
use Rattle.rdl_assignments.proofs.Numbers.{number_fails, number_passes}
use Rattle.rdl_assignments.proofs.indices.failure_among.Goals as goal

pub returns-in-Err : goal.returns-in-Err
returns-in-Err c = λ around shown. number_fails around c.args.list.now c.loop-expr.expr-index c.expr-item.result c.in-Err.fault c.loop-expr-test.true (c.loop-expr.invariant around shown) (c.in-Err.ensures around shown ∙ ap (number_of around) c.expr-item.is)

pub loop-expr-preserved : goal.loop-expr-preserved
loop-expr-preserved c = λ around shown. number_passes around c.args.list.now c.loop-expr.expr-index c.expr-item.result c.in_default.field-0 c.loop-expr-test.true (c.loop-expr.invariant around shown) (c.in_default.ensures around shown ∙ ap (number_of around) c.expr-item.is)

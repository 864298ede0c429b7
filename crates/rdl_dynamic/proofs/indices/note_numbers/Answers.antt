use Rattle.std.proofs.Common.{subst}
use Rattle.std.proofs.lemmas.List.{take_all}
use Rattle.rdl_values.specs.Faults.{failures}
use Rattle.rdl_values.specs.Values.{number_of}
use Rattle.rdl_failures.specs.Noted.{IsNoted}
use Rattle.rdl_failures.proofs.Noting.{nothing_noted, step_noted}
use Rattle.rdl_dynamic.specs.Indices.{bad_numbers}
use Rattle.rdl_dynamic.proofs.indices.note_numbers.Goals as goal

pub loop-expr-init : goal.loop-expr-init
loop-expr-init c = λ env shown. nothing_noted c.args.failures.now

pub loop-expr-preserved : goal.loop-expr-preserved
loop-expr-preserved c = λ env shown. step_noted (λ e. failures (number_of env e)) c.args.list.now c.loop-expr.expr-index c.expr-item.result c.loop-expr-test.true c.expr-item.is _ _ _ _ _ (c.loop-expr.invariant env shown) (c.in_ok-clean.ensures env shown)

pub returns : goal.returns
returns c = λ env shown. subst (λ es. IsNoted (bad_numbers env es) c.loop-expr.clean c.args.failures.now c.loop-expr.failures) (take_all c.loop-expr.expr-index c.args.list.now c.loop-expr-test.false) (c.loop-expr.invariant env shown)

use Rattle.std.proofs.Common.{◌∙◌, ap, flat_map}
use Rattle.std.proofs.lemmas.List.{take_all}
use Rattle.rdl_values.specs.Values.{number_of}
use Rattle.rdl_layers.specs.Settings.{given}
use Rattle.rdl_merge.proofs.Ranges.{numbers_more}
use Rattle.rdl_merge.proofs.texts.numbers_seen.Goals as goal

pub loop-expr-preserved : goal.loop-expr-preserved
loop-expr-preserved c = λ env shown. numbers_more env c.args.exprs.now c.loop-expr.expr-index c.expr-item.result c.loop-expr.list.items c.add_number.new.list.items c.number_seen.result c.loop-expr-test.true c.expr-item.is (c.loop-expr.invariant env shown) (c.number_seen.ensures env shown) c.in_ok-add_number.ensures

pub returns : goal.returns
returns c = λ env shown. c.loop-expr.invariant env shown ∙ ap (flat_map (λ e. given (number_of env e))) (take_all c.loop-expr.expr-index c.args.exprs.now c.loop-expr-test.false)

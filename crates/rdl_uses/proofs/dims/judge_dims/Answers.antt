use Rattle.rdl_uses.proofs.Numbers.{dims_step, noted_step}
use Rattle.rdl_uses.proofs.dims.judge_dims.Goals as goal

pub loop-expr-preserved : goal.loop-expr-preserved
loop-expr-preserved c =
    let es = c.args.exprs.now in
    let i = c.loop-expr.expr-index in
    let e = c.expr-item.result in
    let l = c.loop-expr-test.true in
    record {
      dims = λ env h. dims_step env es i e l c.expr-item.is c.loop-expr.dims c.add.new.self c.number_seen.result (c.number_seen.ensures env h) c.in_ok-add.ensures.added (c.loop-expr.invariant.dims env h);
      noted = λ env h. noted_step env es i e l c.expr-item.is c.loop-expr.dims c.add.new.self c.number_seen.result (c.number_seen.ensures env h) c.in_ok-add.ensures.added _ _ _ (c.loop-expr.invariant.noted env h) c.in_ok-add.ensures.noted;
    }

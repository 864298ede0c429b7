use Rattle.std.proofs.Common.{◌∙◌}
use Rattle.rdl_bodies.proofs.Distinct.{added_more}
use Rattle.rdl_bodies.proofs.values.table_of.Goals as goal

pub loop-parameter-preserved : goal.loop-parameter-preserved
loop-parameter-preserved c = (
  c.in_ok-add_parameter.ensures.enums ∙ c.loop-parameter.invariant.0,
  added_more c.args.bound.now c.loop-parameter.parameter-index _ c.loop-parameter.table.bound c.add_parameter.new.table.bound c.loop-parameter-test.true c.loop-parameter.invariant.1 c.in_ok-add_parameter.ensures.added,
)

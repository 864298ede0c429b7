use Rattle.v_parser.proofs.Taking.{capped_more}
use Rattle.v_parser.proofs.cursor.capped.Goals as goal

pub loop-b-preserved : goal.loop-b-preserved
loop-b-preserved c = capped_more c.loop-b.value c.saturating_mul.result c.saturating_add-value.result c.digit_of.result c.loop-b.b-index c.args.digits.now c.loop-b-test.true c.loop-b.invariant c.saturating_mul.ensures c.digit_of.ensures c.saturating_add-value.ensures

use Rattle.std.proofs.Common.{arith}
use Rattle.rdl_uses.proofs.Bytes.{counted_more, counted_all, few}
use Rattle.rdl_uses.proofs.lengths.decimal_len.Goals as goal

pub overflow_add-len : goal.overflow_add-len
overflow_add-len c = let f = few c.loop-left.len c.loop-left.left c.args.number (omega arith) (omega arith) c.loop-left.invariant.0 in omega (arith, f)

pub loop-left-preserved : goal.loop-left-preserved
loop-left-preserved c = (counted_more c.loop-left.len c.loop-left.left c.args.number (omega arith) (omega arith) c.loop-left.invariant.0, omega arith)

pub returns-clause-exact : goal.returns-clause-exact
returns-clause-exact c = counted_all c.loop-left.len c.loop-left.left c.args.number (omega arith) c.loop-left.invariant.0

pub returns-clause-short : goal.returns-clause-short
returns-clause-short c = few c.loop-left.len c.loop-left.left c.args.number (omega arith) (omega arith) c.loop-left.invariant.0

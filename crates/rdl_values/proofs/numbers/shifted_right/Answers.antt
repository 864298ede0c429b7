use Rattle.std.proofs.Common.{sym, arith}
use Rattle.rdl_values.proofs.Powers.{div-pow_large}
use Rattle.rdl_values.proofs.numbers.shifted_right.Goals as goal

pub returns-else-n-lt64 : goal.returns-else-n-lt64
returns-else-n-lt64 c = sym (div-pow_large c.args.m c.args.n (omega arith) (omega arith))

-- Half of at most 16 bits.
use Rattle.std.proofs.Common.{arith}
use Rattle.gen_decode.proofs.Spreading.{few_bits}
use Rattle.gen_decode.proofs.spread.half_of_bits.Goals as goal

pub returns : goal.returns
returns c = omega (arith, few_bits c.args.last c.requires)

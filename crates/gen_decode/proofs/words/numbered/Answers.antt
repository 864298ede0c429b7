-- The bits of the first number above those of the address.
use Rattle.std.proofs.Common.{arith}
use Rattle.gen_decode.proofs.Ranges.{top_fits}
use Rattle.gen_decode.proofs.words.numbered.Goals as goal

pub number-requires-clause-fits : goal.number-requires-clause-fits
number-requires-clause-fits c = omega (arith, c.from.ensures, top_fits c.args.first 16 c.args.index c.requires.few c.requires.first)

use Rattle.rdl_bits.proofs.Bitten.{bits-judged}
use Rattle.rdl_bits.proofs.laws.bits_are_judged.Goals as goal

pub returns : goal.returns
returns c = bits-judged

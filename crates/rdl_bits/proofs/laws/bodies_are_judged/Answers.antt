use Rattle.rdl_bits.proofs.Bodily.{bodies-judged}
use Rattle.rdl_bits.proofs.laws.bodies_are_judged.Goals as goal

pub returns : goal.returns
returns c = bodies-judged

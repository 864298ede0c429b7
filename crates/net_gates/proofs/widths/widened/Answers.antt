use Rattle.net_gates.proofs.Parts.{below_wider}
use Rattle.net_gates.proofs.widths.widened.Goals as goal

pub number-requires-clause-fits : goal.number-requires-clause-fits
number-requires-clause-fits c = below_wider _ _ _ c.in-Some.ensures.fits c.requires.room

use Rattle.std.proofs.Common.{arith}
use Rattle.net_gates.proofs.widths.placed.Goals as goal
use Rattle.plain_lemmas.proofs.Numbers.{times_power-below as raised_below}

pub raised-requires-clause-fits : goal.raised-requires-clause-fits
raised-requires-clause-fits c = raised_below _ _ _ 128 c.in-Some.ensures.fits (omega arith)

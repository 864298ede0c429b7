-- The nodes so far.
use Rattle.gen_decode.proofs.Spreading.{CrossedTo}
use Rattle.gen_decode.proofs.spread.crossed.Given as goal

abbrev pub invariant-loop-k : goal.invariant-loop-k
invariant-loop-k l = CrossedTo l.initial.net l.net l.rows l.columns l.level l.needed l.ids.items l.k

-- The rows of the numbers so far.
use Rattle.gen_decode.proofs.Spreading.{RowsTo}
use Rattle.gen_decode.proofs.spread.rows_of.Given as goal

abbrev pub invariant-loop-k : goal.invariant-loop-k
invariant-loop-k l = RowsTo l.needed l.level l.rows.items l.k

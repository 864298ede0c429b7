use Rattle.gen_decode.proofs.spread.+columns.Given as goal

abbrev pub decreases-columns : goal.decreases-columns
decreases-columns l = l.bits

use Rattle.gen_decode.proofs.words.+among.Given as goal

abbrev pub decreases-among : goal.decreases-among
decreases-among l = l.bits

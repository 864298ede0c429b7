use Rattle.gen_decode.proofs.runs.+shared.Given as goal

abbrev pub decreases-shared : goal.decreases-shared
decreases-shared l = l.k

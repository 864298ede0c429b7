use Rattle.rdl_open_settings.proofs.rounds.+add_rounds.Given as goal

abbrev pub decreases-add_rounds : goal.decreases-add_rounds
decreases-add_rounds l = l.left

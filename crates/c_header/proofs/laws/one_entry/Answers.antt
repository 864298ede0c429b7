use Rattle.c_header.proofs.OneEntry.{one_alone}
use Rattle.c_header.proofs.Telling.{told}
use Rattle.c_header.proofs.laws.one_entry.Goals as goal

pub returns : goal.returns
returns c = λ b s a. one_alone b s (told b s a)

use Rattle.c_header.proofs.Enumerated.{all_differ}
use Rattle.c_header.proofs.laws.macros_differ.Goals as goal

pub returns : goal.returns
returns c = λ b es s a apart. all_differ b es s apart a

use Rattle.c_header.proofs.Enumerated.{entry-is}
use Rattle.c_header.proofs.laws.entries_are.Goals as goal

pub returns : goal.returns
returns c = entry-is

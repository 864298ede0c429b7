use Rattle.c_header.proofs.MaskedWrites.{written}
use Rattle.c_header.proofs.laws.masked_write.Goals as goal

pub returns : goal.returns
returns c = written

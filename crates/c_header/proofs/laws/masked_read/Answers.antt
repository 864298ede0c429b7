use Rattle.c_header.proofs.MaskedReads.{masked_part}
use Rattle.c_header.proofs.laws.masked_read.Goals as goal

pub returns : goal.returns
returns c = masked_part

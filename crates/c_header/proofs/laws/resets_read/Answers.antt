use Rattle.c_header.proofs.ResetReads.{reset_read}
use Rattle.c_header.proofs.laws.resets_read.Goals as goal

pub returns : goal.returns
returns c = reset_read

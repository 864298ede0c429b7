use Rattle.c_header.proofs.Decoded.{decoded}
use Rattle.c_header.proofs.laws.words_decoded.Goals as goal

pub returns : goal.returns
returns c = decoded

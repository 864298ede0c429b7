use Rattle.std.proofs.lemmas.Nat.{and_mask}
use Rattle.rtl_net.proofs.bits.part.Goals as goal

pub returns : goal.returns
returns c = rw (c.ones.ensures) (and_mask _ _)

use Rattle.block_effects.proofs.Absent.{reads_leave}
use Rattle.block_effects.proofs.laws.reads_leave.Goals as goal

pub returns : goal.returns
returns c = reads_leave

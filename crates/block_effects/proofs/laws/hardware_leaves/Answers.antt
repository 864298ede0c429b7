use Rattle.block_effects.proofs.Absent.{hardware_leaves}
use Rattle.block_effects.proofs.laws.hardware_leaves.Goals as goal

pub returns : goal.returns
returns c = hardware_leaves

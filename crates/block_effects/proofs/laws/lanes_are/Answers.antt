use Rattle.block_effects.proofs.Lanes.{read_lane, read_none, write_lane}
use Rattle.block_effects.proofs.laws.lanes_are.Goals as goal

pub returns : goal.returns
returns c = record { read = read_lane; unread = read_none; written = write_lane }

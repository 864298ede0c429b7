use Rattle.block_effects.proofs.Absent.{writes_store}
use Rattle.block_effects.proofs.laws.writes_store.Goals as goal

pub returns : goal.returns
returns c = writes_store

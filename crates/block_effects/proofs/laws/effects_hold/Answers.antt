use Rattle.block_effects.proofs.Holding.{all_say}
use Rattle.block_effects.proofs.laws.effects_hold.Goals as goal

pub returns : goal.returns
returns c = all_say

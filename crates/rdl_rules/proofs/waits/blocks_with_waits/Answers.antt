use Rattle.rdl_rules.proofs.Waiting.{block, sound}
use Rattle.rdl_rules.proofs.waits.blocks_with_waits.Goals as goal

pub returns-clause-block : goal.returns-clause-block
returns-clause-block c = λ wanted s b waits. block waits b wanted s

pub returns-clause-sound : goal.returns-clause-sound
returns-clause-sound c = λ b waits. sound waits b

use Rattle.gen_clock.proofs.Answering.{DataTo}
use Rattle.gen_clock.proofs.answers.word_data.Given as goal

abbrev pub invariant-loop-slot : goal.invariant-loop-slot
invariant-loop-slot l = DataTo l.scene.base.now.block.now l.scene.base.now.inlet l.fn.net l.net l.stack l.slot-items l.slot-index

use Rattle.gen_clock.proofs.Answering.{AnswersTo}
use Rattle.gen_clock.proofs.answers.answer_node.Given as goal

abbrev pub invariant-loop-number : goal.invariant-loop-number
invariant-loop-number l = AnswersTo l.scene.base.now.block.now l.scene.base.now.inlet l.fn.net l.net l.answers.items l.scene.base.now.block.now.reads l.number

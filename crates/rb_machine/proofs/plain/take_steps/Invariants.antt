use Rattle.rb_machine.proofs.Begun.{TakenSteps}
use Rattle.rb_machine.proofs.plain.take_steps.Given as goal

abbrev pub invariant-loop-plain : goal.invariant-loop-plain
invariant-loop-plain l = TakenSteps l.pins l.steps l.fn.states l.states l.plain-index

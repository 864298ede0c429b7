use Rattle.rb_machine.proofs.Begun.{StepsTo}
use Rattle.rb_machine.proofs.plain.pin_steps.Given as goal

abbrev pub invariant-loop-number : goal.invariant-loop-number
invariant-loop-number l = StepsTo l.fields l.places l.all.items l.number

use Rattle.rb_machine.proofs.Taking.{TakenTo}
use Rattle.rb_machine.proofs.keeping.take_places.Given as goal

abbrev pub invariant-loop-place : goal.invariant-loop-place
invariant-loop-place l = TakenTo l.places l.states l.fn.fields l.fields l.place-index

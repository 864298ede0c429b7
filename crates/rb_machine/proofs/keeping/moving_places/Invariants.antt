use Rattle.rb_machine.proofs.Taking.{MovingTo}
use Rattle.rb_machine.proofs.keeping.moving_places.Given as goal

abbrev pub invariant-loop-number : goal.invariant-loop-number
invariant-loop-number l = MovingTo l.fields l.all.items l.number

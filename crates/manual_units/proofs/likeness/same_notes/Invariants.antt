use Rattle.std.proofs.Common.{◌≡◌, length}
use Rattle.manual_units.specs.Likeness.{same_notes}
use Rattle.manual_units.proofs.likeness.same_notes.Given as goal

abbrev pub invariant-loop-rest : goal.invariant-loop-rest
invariant-loop-rest l = same_notes l.views l.rest l.others ≡ same_notes l.fn.views l.fn.a l.fn.b

abbrev pub decreases-loop-rest : goal.decreases-loop-rest
decreases-loop-rest l = length l.rest

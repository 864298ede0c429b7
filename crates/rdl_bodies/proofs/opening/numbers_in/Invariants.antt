use Rattle.std.proofs.Common.{◌≡◌, ◌∷◌, take}
use Rattle.rdl_bodies.proofs.opening.numbers_in.Given as goal

abbrev pub invariant-loop-round : goal.invariant-loop-round
invariant-loop-round l = l.numbers.items ≡ l.number ∷ take l.round-index l.outer

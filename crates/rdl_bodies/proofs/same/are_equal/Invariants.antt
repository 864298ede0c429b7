use Rattle.std.proofs.Common.{◌≡◌, length, take}
use Rattle.rdl_bodies.proofs.same.are_equal.Given as goal

abbrev pub invariant-loop-at : goal.invariant-loop-at
invariant-loop-at l = (length l.xs ≡ length l.ys) × (take l.at l.xs ≡ take l.at l.ys)

use Rattle.std.proofs.Common.{◌≡◌, length, map, take}
use Rattle.rdl_values.specs.Seen.{bound_of}
use Rattle.rdl_bodies.proofs.same.are_same.Given as goal

abbrev pub invariant-loop-at : goal.invariant-loop-at
invariant-loop-at l = (length l.xs ≡ length l.ys) × (map bound_of (take l.at l.xs) ≡ map bound_of (take l.at l.ys))

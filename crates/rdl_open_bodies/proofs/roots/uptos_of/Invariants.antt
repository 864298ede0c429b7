use Rattle.std.proofs.Common.{◌≡◌, ◌∷◌, take}
use Rattle.rdl_open_bodies.proofs.roots.uptos_of.Given as goal

abbrev pub invariant-loop-other : goal.invariant-loop-other
invariant-loop-other l = l.list.items ≡ l.first ∷ take l.other-index l.others

use Rattle.std.proofs.Common.{◌≡◌, ◌∷◌, take}
use Rattle.rdl_children.proofs.given.uptos_of.Given as goal

abbrev pub invariant-loop-upto : goal.invariant-loop-upto
invariant-loop-upto l = l.list.items ≡ l.position ∷ take l.upto-index l.rest

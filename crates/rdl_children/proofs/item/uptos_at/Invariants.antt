use Rattle.std.proofs.Common.{◌≡◌, ◌∷◌, take}
use Rattle.rdl_children.proofs.item.uptos_at.Given as goal

abbrev pub invariant-loop-upto : goal.invariant-loop-upto
invariant-loop-upto l = l.uptos.items ≡ l.position ∷ take l.upto-index l.outer

use Rattle.std.proofs.Common.{◌≡◌, map, take}
use Rattle.rdl_settle.proofs.names.bodies_of.Given as goal

abbrev pub invariant-loop-spot : goal.invariant-loop-spot
invariant-loop-spot l = l.list.items ≡ map (λ o. o.body) (take l.spot-index l.spots)

use Rattle.std.proofs.Common.{◌≡◌, ◌∷◌, Some, take}
use Rattle.rdl_open_bodies.proofs.chains.chain_behind.Given as goal

abbrev pub invariant-loop-round : goal.invariant-loop-round
invariant-loop-round l = l.list.items ≡ Some l.node ∷ take l.round-index l.chain

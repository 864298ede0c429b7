use Rattle.std.proofs.Common.{ℕ, ◌+◌, ◌<◌, get_or}
use Rattle.cyc_sim.specs.Arranged.{IsPlaced}
use Rattle.cyc_sim.specs.declared.operation.Operation.{Operation}
use Rattle.cyc_sim.proofs.arrangement.Arrangement.places_each.Given as goal

abbrev pub invariant-loop-index : goal.invariant-loop-index
invariant-loop-index l = (k : ℕ) → k < l.index → (d : Operation) → IsPlaced l.self (l.self.first + k) (get_or l.operations k d)

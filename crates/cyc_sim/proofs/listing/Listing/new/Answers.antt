use Rattle.std.proofs.Common.{◌≡◌, ℕ, true, List, [], ap}
use Rattle.cyc_sim.specs.declared.operation.Operation.{Operation}
use Rattle.cyc_sim.specs.Operations.{are_within}
use Rattle.cyc_sim.proofs.listing.Listing.new.Goals as goal

none_within : (first : ℕ) (os : List Operation) → os ≡ [] → are_within first os ≡ true
unfolding are_within
none_within first os is = ap (are_within first) is

pub invariant_of-result : goal.invariant_of-result
invariant_of-result c = record { within = none_within c.args.first c.new.result.items c.new.ensures.items }

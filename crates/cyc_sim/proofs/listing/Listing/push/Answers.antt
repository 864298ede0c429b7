use Rattle.std.proofs.Common.{◌≡◌, ℕ, ◌+◌, true, false, Bool, List, [], ◌∷◌, ◌++◌, if◌then◌else◌, length, ap, ◌∙◌}
use Rattle.cyc_sim.specs.declared.operation.Operation.{Operation}
use Rattle.cyc_sim.specs.Operations.{are_within, is_within}
use Rattle.cyc_sim.proofs.Settling.{within_more}
use Rattle.cyc_sim.proofs.listing.Listing.push.Goals as goal

-- whether or not an operation was added, each is within
within_pushed : (b : Bool) (first : ℕ) (os os' : List Operation) (o : Operation) → are_within first os ≡ true → is_within (first + length os) o ≡ true → os' ≡ (if b then os ++ (o ∷ []) else os) → are_within first os' ≡ true
within_pushed true first os os' o h k is = ap (are_within first) is ∙ within_more first os o h k
within_pushed false first os os' o h k is = ap (are_within first) is ∙ h

pub invariant_of-self : goal.invariant_of-self
invariant_of-self c = record { within = within_pushed _ c.args.self.now.first c.args.self.now.operations.items c.push.new.self.items c.args.operation c.args.self.now.within c.requires c.push.ensures.items }

use Rattle.std.proofs.Common.{[], ◌∷◌}
use Rattle.block_plan.proofs.Needing.{NeedsTo}
use Rattle.block_plan.proofs.needed.want_outlets.Given as goal

abbrev pub invariant-loop-outlet : goal.invariant-loop-outlet
invariant-loop-outlet l = NeedsTo (λ k o. o.item ∷ []) l.outlet-items l.fn.wanted l.wanted l.outlet-index

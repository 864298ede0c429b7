use Rattle.rb_model.specs.References.{gate_refs}
use Rattle.block_plan.proofs.Needing.{NeedsTo}
use Rattle.block_plan.proofs.needed.want_views.Given as goal

abbrev pub invariant-loop-view : goal.invariant-loop-view
invariant-loop-view l = NeedsTo (λ k u. gate_refs u.gate) l.view-items l.fn.wanted l.wanted l.view-index

use Rattle.block_plan.specs.Needs.{field_needs}
use Rattle.block_plan.proofs.Needing.{NeedsTo}
use Rattle.block_plan.proofs.needed.want_fields.Given as goal

abbrev pub invariant-loop-index : goal.invariant-loop-index
invariant-loop-index l = NeedsTo field_needs l.block.fields l.fn.wanted l.wanted l.index

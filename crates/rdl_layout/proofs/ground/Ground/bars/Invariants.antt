use Rattle.std.proofs.Common.{◌≡◌, ◌+◌, ◌<◌, ℕ, false}
use Rattle.rdl_layout.specs.Extents.{bars}
use Rattle.rdl_layout.specs.Ground.{tenant_at}
use Rattle.rdl_layout.proofs.ground.Ground.bars.Given as goal

abbrev pub invariant-loop-offset : goal.invariant-loop-offset
invariant-loop-offset l = (k : ℕ) → k < l.offset → bars l.extent.tenant (tenant_at l.self (l.extent.first + k)) ≡ false

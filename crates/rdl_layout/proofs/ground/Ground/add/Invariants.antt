use Rattle.std.proofs.Common.{◌≡◌, ℕ}
use Rattle.rdl_layout.specs.Extents.{stepped}
use Rattle.rdl_layout.specs.Ground.{tenant_at}
use Rattle.rdl_layout.proofs.ground.Ground.add.Given as goal

abbrev pub invariant-loop-offset : goal.invariant-loop-offset
invariant-loop-offset l = (p : ℕ) → tenant_at l.self p ≡ stepped p (tenant_at l.initial.self p) (record l.extent { length = l.offset })

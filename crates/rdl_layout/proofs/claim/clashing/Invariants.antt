use Rattle.std.proofs.Common.{◌≡◌, ℕ, take}
use Rattle.rdl_layout.specs.Claims.{clashing_claims, extents}
use Rattle.rdl_layout.specs.Extents.{tenancy}
use Rattle.rdl_layout.specs.Ground.{tenant_at}
use Rattle.rdl_layout.proofs.claim.clashing.Given as goal

abbrev pub invariant-loop-claim : goal.invariant-loop-claim
invariant-loop-claim l = record {
  ground : (p : ℕ) → tenant_at l.ground p ≡ tenancy p (extents (take l.claim-index l.claims));
  faults : l.faults.items ≡ clashing_claims l.rule (take l.claim-index l.claims);
}

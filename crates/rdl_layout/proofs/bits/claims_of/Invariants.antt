use Rattle.std.proofs.Common.{◌≡◌, take, map}
use Rattle.rdl_layout.specs.Fields.{claim_of}
use Rattle.rdl_layout.proofs.bits.claims_of.Given as goal

abbrev pub invariant-loop-one : goal.invariant-loop-one
invariant-loop-one l = l.claims.items ≡ map claim_of (take l.one-index l.bits)

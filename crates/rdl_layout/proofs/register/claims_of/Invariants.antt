use Rattle.std.proofs.Common.{◌≡◌, take, map}
use Rattle.rdl_layout.specs.Registers.{claim_of}
use Rattle.rdl_layout.proofs.register.claims_of.Given as goal

abbrev pub invariant-loop-register : goal.invariant-loop-register
invariant-loop-register l = l.claims.items ≡ map claim_of (take l.register-index l.registers)

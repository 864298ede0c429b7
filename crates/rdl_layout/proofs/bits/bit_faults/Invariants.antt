use Rattle.std.proofs.Common.{◌≡◌, ◌++◌, take, map, flat_map}
use Rattle.rdl_base.specs.declared.rule.Rule.TheVariants as rules
use Rattle.rdl_layout.specs.Claims.{clashing_claims}
use Rattle.rdl_layout.specs.Fields.{claim_of, outside}
use Rattle.rdl_layout.proofs.bits.bit_faults.Given as goal

abbrev pub invariant-loop-one : goal.invariant-loop-one
invariant-loop-one l = l.faults.items ≡ clashing_claims rules.B2 (map claim_of l.bits) ++ flat_map (outside l.regwidth) (take l.one-index l.bits)

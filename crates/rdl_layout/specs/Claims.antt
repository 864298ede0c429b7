-- Which claims to extents clash with one before them.
use Rattle.std.specs.Prelude.{◌+◌, ◌<◌, ◌^◌, List, map, flat_map}
use Rattle.rdl_base.specs.declared.fault.Fault.{Fault}
use Rattle.rdl_base.specs.declared.rule.Rule.{Rule}
use Rattle.rdl_values.specs.Bodies.{standing}
use Rattle.rdl_values.specs.Faults.{at_, when}
use Rattle.rdl_layout.specs.declared.claim.Claim.{Claim}
use Rattle.rdl_layout.specs.declared.extent.Extent.{Extent}
use Rattle.rdl_layout.specs.Extents.{clashes_with_any}

-- the extent has a position, and none at 2^128 or above
abbrev pub IsFit : Claim → Type 0
IsFit c = (0 < c.extent.length) × (c.extent.first + c.extent.length < 2 ^ 128)

abbrev pub extents : List Claim → List Extent
extents cs = map (λ c. c.extent) cs

-- a failure at the place of one that clashes with one of those before it
abbrev pub when_clashing : Rule → List Claim × Claim → List Fault
when_clashing rule c = when (clashes_with_any (extents c.0) c.1.extent) (at_ rule c.1.place)

abbrev pub clashing_claims : Rule → List Claim → List Fault
clashing_claims rule cs = flat_map (when_clashing rule) (standing cs)

-- The rules on the addresses of registers, by numbers alone.
use Rattle.std.specs.Prelude.{◌+◌, ◌/◌, ◌%◌, ◌^◌, ◌<◌, Bool, not, List, ◌++◌, length, map, flat_map, nat_lt, ◌==◌}
use Rattle.rdl_base.specs.declared.fault.Fault.{Fault}
use Rattle.rb_base.specs.declared.place.Place.{Place}
use Rattle.rdl_base.specs.declared.rule.Rule.TheVariants as rules
use Rattle.rdl_values.specs.Faults.{at_, when}
use Rattle.rdl_layout.specs.declared.claim.Claim.{Claim}
use Rattle.rdl_layout.specs.Claims.{clashing_claims}
use Rattle.rdl_layout.specs.declared.register.Register.{Register}

abbrev pub is_misaligned : Register → Bool
is_misaligned r = not (r.address % (r.accesswidth / 8) == 0)

abbrev pub is_too_large : Register → Bool
is_too_large r = nat_lt (2 ^ 32) (r.address + r.size)

abbrev pub claim_of : Register → Claim
claim_of r = record { place = r.place; extent = record { first = r.address; length = r.size; tenant = record { form = record { address = r.address; regwidth = r.regwidth; accesswidth = r.accesswidth }; side = r.side } } }

-- it has an access width and a byte, and none at 2^128 or above
pub record IsFit (r : Register) : Type 0 where
  pub wide : 7 < r.accesswidth
  pub some : 0 < r.size
  pub below : r.address + r.size < 2 ^ 128

abbrev pub misaligned : Register → List Fault
misaligned r = when (is_misaligned r) (at_ rules.A3 r.place)

abbrev pub too_large : Register → List Fault
too_large r = when (is_too_large r) (at_ rules.A4 r.place)

-- A3 to A6, where this is the top's place
abbrev pub faults : Place → List Register → List Fault
faults top rs = clashing_claims rules.A5 (map claim_of rs) ++ flat_map misaligned rs ++ flat_map too_large rs ++ when (nat_lt 8192 (length rs)) (at_ rules.A6 top)

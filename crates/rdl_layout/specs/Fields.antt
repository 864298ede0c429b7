-- The bits of fields, and the rules on them, by numbers alone.
use Rattle.std.specs.Prelude.{ℕ, ◌+◌, ◌-◌, ◌<◌, ◌≤◌, ◌^◌, Option, None, Some, List, [], ◌∷◌, ◌++◌, map, flat_map, nat_le}
use Rattle.rdl_base.specs.declared.fault.Fault.{Fault}
use Rattle.rdl_base.specs.declared.rule.Rule.TheVariants as rules
use Rattle.rdl_values.specs.Faults.{at_, when}
use Rattle.rdl_layout.specs.declared.claim.Claim.{Claim}
use Rattle.rdl_layout.specs.Claims.{clashing_claims}
use Rattle.rdl_layout.specs.declared.bits.Field.{Field}
use Rattle.rdl_layout.specs.declared.bits.FieldBits.{FieldBits}

-- the bits of a range, or of so many bits from the next one on
abbrev pub high_in : ℕ → ℕ → Option (ℕ × ℕ) → ℕ
high_in next width (Some r) = r.0
high_in next width None = next + width - 1

abbrev pub low_in : ℕ → Option (ℕ × ℕ) → ℕ
low_in next (Some r) = r.1
low_in next None = next

abbrev pub bits_at : ℕ → Field → FieldBits
bits_at next f = record { place = f.place; high = high_in next f.width f.range; low = low_in next f.range; side = f.side }

-- a field without a range begins one bit above the one before it
abbrev pub bits_from : ℕ → List Field → List FieldBits
bits_from next [] = []
bits_from next (f ∷ fs) = bits_at next f ∷ bits_from ((bits_at next f).high + 1) fs

-- a range has 1 to 64 bits, if there is one, and the width is 1 to 64
abbrev pub IsRange : Option (ℕ × ℕ) → Type 0
IsRange None = Unit {0}
IsRange (Some r) = (r.1 ≤ r.0) × (r.0 < r.1 + 64)

pub record IsFit (f : Field) : Type 0 where
  pub some : 0 < f.width
  pub few : f.width ≤ 64
  pub range_ : IsRange f.range

-- bits of a field of 1 to 64, below 2^128 - 1
pub record IsSpan (b : FieldBits) : Type 0 where
  pub some : b.low ≤ b.high
  pub few : b.high < b.low + 64
  pub below : b.high + 1 < 2 ^ 128

abbrev pub claim_of : FieldBits → Claim
claim_of b = record { place = b.place; extent = record { first = b.low; length = b.high - b.low + 1; tenant = record { form = record { address = 0; regwidth = 0; accesswidth = 0 }; side = b.side } } }

-- B1
abbrev pub outside : ℕ → FieldBits → List Fault
outside regwidth b = when (nat_le regwidth b.high) (at_ rules.B1 b.place)

-- B1 and B2, of the fields of a register of this width
abbrev pub faults : ℕ → List FieldBits → List Fault
faults regwidth bs = clashing_claims rules.B2 (map claim_of bs) ++ flat_map (outside regwidth) bs

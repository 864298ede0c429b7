-- Which bits of interrupts count.
use Rattle.std.specs.Prelude.{ℕ, ◌-◌, ◌^◌, Bool, if◌then◌else◌, nat_lt, Option, Some, None, bit_and}
use Rattle.rtl_net.specs.Value.{At}
use Rattle.rtl_net.specs.Net.{Net, Has, MayHave, width_in}
use Rattle.rtl_net.specs.declared.node.Id.{Id}
use Rattle.gen_events.specs.declared.lines.Masked.{Masked}

-- the bits of v, of w bits, where a mask is 1, or where inverted those where it is 0
abbrev pub under_mask : At → (w v : ℕ) → Bool → Option Id → ℕ
under_mask x w v inverted None = v
under_mask x w v inverted (Some mask) = if inverted then bit_and v (2 ^ w - 1 - x.node mask.0) else bit_and v (x.node mask.0)

abbrev pub masked_bits : Net → At → Masked → ℕ
masked_bits net x m = under_mask x (width_in net m.value) (x.node m.value.0) m.inverted m.mask

-- a bit of the value counts
abbrev pub counts_at : Net → At → Masked → Bool
counts_at net x m = nat_lt 0 (masked_bits net x m)

-- the value stands, and a mask has its width
abbrev pub IsMasked : Net → Masked → Type 0
IsMasked net m = Has net m.value × MayHave net m.mask (width_in net m.value)

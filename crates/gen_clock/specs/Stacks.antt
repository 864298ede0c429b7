-- Bits of a word, one above the other.
use Rattle.std.specs.Prelude.{◌≡◌, ℕ, ◌-◌, ◌*◌, ◌^◌, ◌<◌, ◌≤◌, Option, Some, None, bit_or}
use Rattle.rtl_net.specs.Value.{At}
use Rattle.rtl_net.specs.Net.{Net, Settles, Stands}
use Rattle.rtl_net.specs.declared.node.Id.{Id}
use Rattle.gen_clock.specs.declared.stacks.Stack.{Stack}

-- the bits of a word from low up to top
pub record IsStack (net : Net) (s : Stack) : Type 0 where
  pub stands : Stands net s.bits (s.top - s.low)
  pub some : s.low < s.top

-- nothing, or bits of a word of this width
abbrev pub MayStack : Net → ℕ → Option Stack → Type 0
MayStack net w None = Unit {0}
MayStack net w (Some s) = IsStack net s × (s.top ≤ w)

-- the word that stands, and 0 where nothing does
abbrev pub stacked : At → Option Stack → ℕ
stacked x None = 0
stacked x (Some s) = x.node s.bits.0 * 2 ^ s.low

-- the or of what stood before and of bits from low up
pub record IsLaid (net : Net) (before : Option Stack) (bits : Id) (low : ℕ) (s : Stack) : Type 0 where
  pub stack : IsStack net s
  pub value : (x : At) → Settles net x → stacked x (Some s) ≡ bit_or (stacked x before) (x.node bits.0 * 2 ^ low)

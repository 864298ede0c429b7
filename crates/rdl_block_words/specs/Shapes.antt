-- Where the registers of the code stand.
use Rattle.std.specs.Prelude.{◌≡◌, ◌⊎◌, ◌+◌, ◌/◌, ◌≤◌, ◌^◌}
use Rattle.rdl_props.specs.declared.prop.Prop.TheVariants as prop
use Rattle.rdl_layers.specs.Phase4.{number_at}
use Rattle.rdl_addr.specs.Layout.{Placed}
use Rattle.rdl_rules.specs.Numbers.{Numbered}
use Rattle.rdl_block_words.specs.declared.word.Shape.{Shape}

-- The shape says where a register of the layout stands.
pub record IsShapeOf (s : Shape) (r : Numbered Placed) : Type 0 where
  pub number_ : s.number ≡ r.number
  pub first_view_ : s.first_view ≡ r.first_view
  pub address_ : s.address ≡ r.register.address
  pub regwidth_ : s.regwidth ≡ number_at r.register.node prop.Regwidth
  pub accesswidth_ : s.accesswidth ≡ number_at r.register.node prop.Accesswidth

-- A word has 8, 16 or 32 bits, and the register ends at 2^32 or below.
pub record Fits (s : Shape) : Type 0 where
  pub wide : (s.accesswidth ≡ 8) ⊎ (s.accesswidth ≡ 16) ⊎ (s.accesswidth ≡ 32)
  pub ends : s.address + s.regwidth / 8 ≤ 2 ^ 32

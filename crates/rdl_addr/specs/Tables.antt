-- The tables that the map of a tree is kept in.
use Rattle.std.specs.Prelude.{◌≡◌, ℕ, length}
use Rattle.rdl_values.specs.Elaborated.{nodes_of}
use Rattle.rdl_addr.specs.declared.map.Area.{Area}
use Rattle.rdl_addr.specs.Areas.{bits_at, area_at}
use Rattle.rdl_addr.specs.declared.map.Map.TheInside.{Inside}
use Rattle.rdl_addr.specs.Answers.{HasAddressAt, IsAddressAt, IsSizeAt, IsFieldAt, AreBitsAt}

-- where a node stands, and which bits it has
abbrev pub area_of : Inside → ℕ → Area
area_of a k = area_at a.areas.items k

abbrev pub bits_of : Inside → ℕ → ℕ × ℕ
bits_of a k = bits_at a.bits.items k

-- Node by node, the places of those that have an address, and the bits of the fields.
pub record AreTables (a : Inside) : Type 0 where
  pub all_placed : length a.areas.items ≡ length (nodes_of a.elab)
  pub addresses : (k : ℕ) → HasAddressAt a.elab k → IsAddressAt a.elab k (area_of a k).address
  pub sizes : (k : ℕ) → HasAddressAt a.elab k → IsSizeAt a.elab k (area_of a k).size
  pub all_fields : length a.bits.items ≡ length (nodes_of a.elab)
  pub fields : (k : ℕ) → IsFieldAt a.elab k → AreBitsAt a.elab k (bits_of a k)

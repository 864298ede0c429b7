-- Input pins of a block by name, whatever bus it stands behind.
use Rattle.std.specs.Prelude.{◌≡◌, ℕ, Bool, false, Some, List, [], ◌∷◌, codes, slice_get}
use Rattle.std.specs.List.{list_any}
use Rattle.std.specs.Str.{bytes_eq}
use Rattle.rb_base.specs.declared.ports.Pin.{Pin}
use Rattle.rb_model.specs.declared.block.Block.{Block}
use Rattle.rb_model.specs.Ports.{input_pins}

-- the five pins that an APB access alone uses
abbrev pub is_access_pin : List ℕ → Bool
is_access_pin name = list_any (bytes_eq name) (codes "PADDR" ∷ codes "PSEL" ∷ codes "PENABLE" ∷ codes "PWRITE" ∷ codes "PWDATA" ∷ [])

-- a pin of the block behind any bus
pub record IsDataPin (b : Block) (p : Pin) : Type 0 where
  pub place : ℕ
  pub here : slice_get (input_pins b) place ≡ Some p
  pub other : is_access_pin p.name ≡ false

-- What a table of places and one of bits have for a node.
use Rattle.std.specs.Prelude.{ℕ, List, slice_index_or}
use Rattle.rdl_addr.specs.declared.map.Area.{Area}

-- where a node stands
abbrev pub area_at : List Area → ℕ → Area
area_at areas k = slice_index_or areas k (record { address = 0; size = 0 })

-- its high and its low bit
abbrev pub bits_at : List (ℕ × ℕ) → ℕ → ℕ × ℕ
bits_at bits k = slice_index_or bits k (0, 0)

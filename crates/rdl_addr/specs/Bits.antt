-- Which bits of its register a field has (SystemRDL 2.0, 9.1).
use Rattle.std.specs.Prelude.{ℕ, ◌+◌, ◌-◌, List, [], ◌∷◌}
use Rattle.rdl_values.specs.Instances.{Instance}
use Rattle.rdl_layers.specs.Phase4.{width_of, range_of}
use Rattle.rdl_layers.specs.Fields.{fields_of}

-- A field, its high bit and its low bit.
pub record Bits : Type 0 where
  pub node : Instance
  pub high : ℕ
  pub low : ℕ

-- its range, else as many bits as it is wide from this one on
abbrev pub bits_at : ℕ → Instance → Bits
bits_at next n = go (range_of n)
  where
    go : List (ℕ × ℕ) → Bits
    go (r ∷ rs) = record { node = n; high = r.0; low = r.1 }
    go [] = record { node = n; high = next + width_of n - 1; low = next }

-- a field without a range begins one bit above the one before it
abbrev pub bits_from : ℕ → List Instance → List Bits
bits_from next [] = []
bits_from next (n ∷ ns) = bits_at next n ∷ bits_from ((bits_at next n).high + 1) ns

-- the fields of a register, in order
abbrev pub bits_of : Instance → List Bits
bits_of n = bits_from 0 (fields_of n)

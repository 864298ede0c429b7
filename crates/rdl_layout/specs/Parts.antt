-- The placing of the instances of a body, by numbers alone.
use Rattle.std.specs.Prelude.{ℕ, ◌+◌, ◌*◌, max, cond, Option, None, Some, List, [], ◌∷◌}
use Rattle.std.specs.Option.{unwrap_or}
use Rattle.rdl_layout.specs.Rounding.{multiple_from, up}
use Rattle.rdl_layout.specs.declared.part.Mode.{Mode}
use Rattle.rdl_layout.specs.declared.part.Mode.TheVariants.{Compact, Regalign, Fullalign}
use Rattle.rdl_layout.specs.declared.part.Part.{Part}

abbrev pub default_stride : Mode → Part → ℕ
default_stride Compact p = multiple_from p.access p.size
default_stride _ p = up p.size

abbrev pub stride : Mode → Part → ℕ
stride mode p = unwrap_or p.stride (default_stride mode p)

abbrev pub span : Mode → Part → ℕ
span mode p = p.others * stride mode p + p.size

abbrev pub alignment : Mode → Part → ℕ
alignment Compact p = p.access
alignment Regalign p = up p.size
alignment Fullalign p = cond p.is_array (up (span Fullalign p)) (up p.size)

-- where one starts whose text gives this address and this alignment, and that else is a multiple of a number
abbrev pub started : (multiple before : ℕ) → Option ℕ → Option ℕ → ℕ
started multiple before (Some x) m = x
started multiple before None (Some m) = multiple_from (max m 1) before
started multiple before None None = multiple_from multiple before

-- where it starts, where the one before it ends
abbrev pub start : Mode → ℕ → Part → ℕ
start mode before p = started (alignment mode p) before p.at p.align

abbrev pub end : Mode → ℕ → Part → ℕ
end mode before p = start mode before p + span mode p

-- where each part starts, before the first standing so much
abbrev pub starts : Mode → ℕ → List Part → List ℕ
starts mode before [] = []
starts mode before (p ∷ ps) = start mode before p ∷ starts mode (end mode before p) ps

-- the greatest of their ends
abbrev pub greatest_end : Mode → ℕ → List Part → ℕ
greatest_end mode before [] = 0
greatest_end mode before (p ∷ ps) = max (end mode before p) (greatest_end mode (end mode before p) ps)

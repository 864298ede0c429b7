-- Modes, node by node.
use Rattle.std.specs.Prelude.{◌≡◌, ℕ, ◌<◌, List, ◌∷◌, length, Option, None, Some, slice_get, slice_index_or}
use Rattle.rdl_tree.specs.declared.node.Elab.{Elab}
use Rattle.rdl_values.specs.Lineages.{Lineage, lineages_of}
use Rattle.rdl_layout.specs.declared.part.Mode.{Mode}
use Rattle.rdl_layout.specs.declared.part.Mode.TheVariants.{Regalign}
use Rattle.rdl_addr.specs.Parts.{mode_of}
use Rattle.rdl_sizes.specs.Levels.{mode_under}

-- the mode at a number
abbrev pub mode_at : List Mode → ℕ → Mode
mode_at modes k = slice_index_or modes k Regalign

-- the mode round a node that stands in the one of this number
abbrev pub outer_at : List Mode → Option ℕ → Mode
outer_at modes None = Regalign
outer_at modes (Some p) = mode_at modes p

-- the number is one of these many, if there is one
abbrev pub IsBelow : ℕ → Option ℕ → Type 0
IsBelow n None = Unit {0}
IsBelow n (Some p) = p < n

-- The modes are those in the bodies of the first nodes.
pub record AreModes (e : Elab) (modes : List Mode) : Type 0 where
  pub of_each : (k : ℕ) (l : Lineage) → k < length modes → slice_get (lineages_of e) k ≡ Some l → mode_of (mode_at modes k) ≡ mode_under (l.node ∷ l.ancestors)

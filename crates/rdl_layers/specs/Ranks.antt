-- Which of the assignments that apply to a node decides a property (SystemRDL 2.0, 5.1.3).
use Rattle.std.specs.Prelude.{ℕ, Bool, not, ◌&&◌, ◌||◌, nat_lt, ◌==◌, List}
use Rattle.std.specs.List.{list_all}
use Rattle.rdl_props.specs.declared.prop.Prop.{Prop}
use Rattle.rdl_props.specs.Same.{same_prop}
use Rattle.rdl_props.specs.Table.{share_group}
use Rattle.rdl_layers.specs.declared.rank.Rank.{Rank}
use Rattle.rdl_layers.specs.declared.rank.Rank.TheVariants as rank
use Rattle.rdl_layers.specs.declared.candidate.Candidate.{Candidate}

-- one is the other, or they exclude each other
abbrev pub is_related : Prop → Prop → Bool
is_related p q = same_prop p q || share_group p q

-- the layers of assignments, the one that decides first at 0
abbrev pub layer : Rank → ℕ
layer (rank.Dynamic depth) = 0
layer rank.Instance = 1
layer rank.Body = 2
layer (rank.Default distance) = 3
layer rank.Table = 4

-- within a layer: dynamic assignments from the outermost body on, defaults from the nearest
abbrev pub within : Rank → ℕ
within (rank.Dynamic depth) = depth
within (rank.Default distance) = distance
within _ = 0

-- an assignment of the one rank decides rather than one of the other
abbrev pub is_before : Rank → Rank → Bool
is_before a b = nat_lt (layer a) (layer b) || (layer a == layer b && nat_lt (within a) (within b))

-- An assignment decides a property where it is of the property or of one that excludes it, and none such ranks before it.
abbrev pub decides : Prop → List Candidate → Candidate → Bool
decides p all c = is_related p c.prop && list_all (λ d. not (is_related p d.prop && is_before d.rank c.rank)) all

-- Fields with a property through one of their views.
use Rattle.std.specs.Prelude.{◌≡◌, ℕ, Bool, true, false, ◌&&◌, ◌==◌, List, ◌∷◌, length, Option, None, Some, slice_get, slice_set, take}
use Rattle.std.specs.List.{list_any}
use Rattle.rdl_tree.specs.declared.item.Kind.TheVariants as kind
use Rattle.rdl_tree.specs.declared.node.Elab.{Elab}
use Rattle.rdl_values.specs.Elaborated.{nodes_of}
use Rattle.rdl_values.specs.Instances.{Instance}
use Rattle.rdl_values.specs.Lineages.{Lineage, lineages_of}
use Rattle.rdl_values.specs.Uses.{same_name}
use Rattle.rdl_layers.specs.Fields.{is_a, is_alias, is_alias_of, views}

-- The node of a number is a field of a register that is no alias.
pub record IsKept (e : Elab) (k : ℕ) (l : Lineage) (r : Instance) : Type 0 where
  pub here : slice_get (lineages_of e) k ≡ Some l
  pub is_field : is_a kind.Field l.node ≡ true
  pub above : List Instance
  pub parent : l.ancestors ≡ r ∷ above
  pub no_alias : is_alias r ≡ false

-- for each node whether it passes a test
abbrev pub AreTests : Elab → (Instance → Bool) → List Bool → Type 0
AreTests e test bs = (k : ℕ) (n : Instance) → slice_get (nodes_of e) k ≡ Some n → slice_get bs k ≡ Some (test n)

-- For each field of a register that is no alias whether one of its views passes a test.
pub record AreOverViews (e : Elab) (test : Instance → Bool) (bs : List Bool) : Type 0 where
  pub many : length bs ≡ e.count
  pub each : (k : ℕ) (l : Lineage) (r : Instance) → IsKept e k l r → slice_get bs k ≡ Some (list_any test (views (nodes_of e) r l.node))

-- the node is a view of a field of the register through an alias of it
abbrev pub covers : Instance → Instance → Lineage → Bool
covers r f g = is_a kind.Field g.node && same_name g.node.use_.name f.use_.name && list_any (is_alias_of r) (take 1 g.ancestors)

-- it is this number
abbrev pub is_at : Option ℕ → ℕ → Bool
is_at None k = false
is_at (Some j) k = j == k

-- with a mark at a number, if there is one
abbrev pub marked : List Bool → Option ℕ → List Bool
marked bs None = bs
marked bs (Some k) = slice_set bs k true

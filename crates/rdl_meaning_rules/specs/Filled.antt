-- Which nodes hold a register.
use Rattle.std.specs.Prelude.{◌≡◌, ℕ, ◌≤◌, Bool, false, List, length, Some, slice_get, slice_index_or}
use Rattle.std.specs.List.{list_any}
use Rattle.rdl_tree.specs.declared.item.Kind.TheVariants as kind
use Rattle.rdl_tree.specs.declared.node.Elab.{Elab}
use Rattle.rdl_values.specs.Instances.{Instance, most_names, with_below}
use Rattle.rdl_values.specs.Lineages.{Lineage, lineages_of}
use Rattle.rdl_layers.specs.Fields.{is_a}

abbrev pub filled_at : List Bool → ℕ → Bool
filled_at t k = slice_index_or t k false

-- a node is a register, or one stands below it
unfoldable pub holds_register : Instance → Bool
holds_register n = list_any (is_a kind.Reg) (with_below most_names n)

-- What is known from a node on.
pub record AreFilledFrom (e : Elab) (from : ℕ) (t : List Bool) : Type 0 where
  pub many : length t ≡ length (lineages_of e)
  pub each : (k : ℕ) (l : Lineage) → from ≤ k → slice_get (lineages_of e) k ≡ Some l → filled_at t k ≡ holds_register l.node

-- of all nodes
abbrev pub AreFilled : Elab → List Bool → Type 0
AreFilled e t = AreFilledFrom e 0 t

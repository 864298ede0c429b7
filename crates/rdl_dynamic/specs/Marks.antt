-- What is marked at nodes.
use Rattle.std.specs.Prelude.{◌≡◌, ℕ, ◌==◌, Bool, false, List, Option, None, Some, Vec}
use Rattle.std.specs.Global.{Global}
use Rattle.std.specs.HashMap.{get_by}
use Rattle.std.specs.List.{list_any}
use Rattle.rdl_props.specs.declared.prop.Prop.{Prop}
use Rattle.rdl_values.specs.Instances.{Instance}
use Rattle.rdl_values.specs.Lineages.{Lineage}
use Rattle.rdl_layers.specs.Assignments.{Dynamic, Nested}
use Rattle.rdl_targets.specs.At.{IsAt}
use Rattle.rdl_dynamic.specs.Marked.{assigned_at}
use Rattle.rdl_dynamic.specs.declared.marks.Marks.{Marks}

abbrev pub any_of : (Prop → Bool) → Option (Vec Prop Global) → Bool
any_of f None = false
any_of f (Some v) = list_any f v.items

-- a property that passes the test is marked at the node
abbrev pub is_marked : Marks → ℕ → (Prop → Bool) → Bool
is_marked m node f = any_of f (get_by (λ k. node == k) m.at)

-- At each node the properties are marked that these assignments of the body assign there.
pub record AreMarks (all : List Lineage) (b : Nested) (m : Marks) (earlier : List Dynamic) : Type 0 where
  pub at : (k : ℕ) (n : Instance) → IsAt all k n → (f : Prop → Bool) → is_marked m k f ≡ list_any f (assigned_at b earlier n)

-- The primary of an alias, as a node.
use Rattle.std.specs.Prelude.{◌≡◌, ◌⊎◌, true, List, [], ◌∷◌, None}
use Rattle.rdl_tree.specs.declared.expr.Name.{Name}
use Rattle.rdl_tree.specs.declared.item.Kind.TheVariants as kind
use Rattle.rdl_values.specs.Bodies.{same_name}
use Rattle.rdl_values.specs.Instances.{Instance, kind_of}
use Rattle.rdl_values.specs.Uses.{Use}

-- one of the list is so
abbrev pub Somewhere : {X : Type 0} → (X → Type 0) → List X → Type 0
Somewhere P [] = ⊥
Somewhere P (x ∷ xs) = P x ⊎ Somewhere P xs

-- A register of a use that is no alias.
pub record IsPrimaryNode (u : Use) (n : Instance) : Type 0 where
  pub use_is : n.use_ ≡ u
  pub is_register : kind_of n ≡ kind.Reg
  pub no_alias : n.use_.alias ≡ None

-- one of these nodes is a register of the name that is no alias
abbrev pub HasPrimary : Name → List Instance → Type 0
HasPrimary n ns = (u : Use) × (same_name u.name n ≡ true) × Somewhere (IsPrimaryNode u) ns

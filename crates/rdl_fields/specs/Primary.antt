-- The register that a node is an alias of.
use Rattle.std.specs.Prelude.{◌≡◌, ℕ, true, false, List, [], ◌∷◌, filter, Option, None, Some, slice_get}
use Rattle.rdl_tree.specs.declared.item.Kind.TheVariants as kind
use Rattle.rdl_tree.specs.declared.node.Elab.{Elab}
use Rattle.rdl_values.specs.Elaborated.{nodes_of}
use Rattle.rdl_values.specs.Instances.{Instance}
use Rattle.rdl_layers.specs.Fields.{is_a, is_alias, is_alias_of}

-- The register of this number is the only one that the node is an alias of, and is no alias.
pub record IsPrimaryOf (e : Elab) (a : Instance) (k : ℕ) (r : Instance) : Type 0 where
  pub here : slice_get (nodes_of e) k ≡ Some r
  pub is_register : is_a kind.Reg r ≡ true
  pub no_alias : is_alias r ≡ false
  pub only : filter (λ p. is_alias_of p a) (filter (is_a kind.Reg) (nodes_of e)) ≡ r ∷ []

-- the number of the node's primary, and none where it is no alias
abbrev pub TellsPrimary : Elab → Instance → Option ℕ → Type 0
TellsPrimary e a None = is_alias a ≡ false
TellsPrimary e a (Some k) = (is_alias a ≡ true) × (r : Instance) × IsPrimaryOf e a k r

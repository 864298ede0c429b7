-- The fields that views are of.
use Rattle.std.specs.Prelude.{◌≡◌, true, false, List, [], ◌∷◌, Contains, Some, filter, is_some, slice_get}
use Rattle.rdl_values.specs.Instances.{Instance}
use Rattle.rdl_values.specs.Lineages.{Lineage}
use Rattle.rdl_layers.specs.Fields.{is_alias, is_alias_of}
use Rattle.rdl_layers.specs.Phase4.{width_of}
use Rattle.rb_model.specs.declared.block.Block.{Block}
use Rattle.rb_model.specs.declared.block.Field.{Field}
use Rattle.rdl_rules.specs.Fields.{view_of}
use Rattle.rdl_rules.specs.Numbers.{registers}

-- An instance with a range has no bracket, as the grammar has it.
abbrev pub HasOneForm : Instance → Type 0
HasOneForm n = is_some n.use_.form.range ≡ true → n.use_.dims ≡ []

-- The view of a register's field has a field of the block, which is as wide as its own.
pub record HasField (all : List Lineage) (b : Block) (r f : Instance) : Type 0 where
  pub field : Field
  pub of : slice_get b.fields (view_of all r f).field ≡ Some field
  pub wide : field.width ≡ width_of f

-- It is that field, under its own path.
pub record IsViewed (all : List Lineage) (b : Block) (r f : Instance) : Type 0 where
  pub has : HasField all b r f
  pub path_ : (view_of all r f).path ≡ has.field.path

-- Each alias has one primary, which is no alias.
abbrev pub HavePrimaries : List Instance → Type 0
HavePrimaries ns = (a : Instance) → Contains (registers ns) a → is_alias a ≡ true → (r : Instance) × (filter (λ p. is_alias_of p a) (registers ns) ≡ r ∷ []) × (is_alias r ≡ false)

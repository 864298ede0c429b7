-- Through which views software touches fields, and which fields keep a value.
use Rattle.std.specs.Prelude.{◌≡◌, ℕ, ◌<◌, Bool, ◌||◌, List, [], ◌∷◌, length, Some, slice_get}
use Rattle.rdl_props.specs.declared.prop.Prop.TheVariants as prop
use Rattle.rdl_tree.specs.declared.node.Elab.{Elab}
use Rattle.rdl_values.specs.Elaborated.{nodes_of}
use Rattle.rdl_values.specs.Instances.{Instance}
use Rattle.rdl_layers.specs.Fields.{has_on_read, has_one_of, writes}

-- software writes through the view, or changes the field by a read
abbrev pub touches : Instance → Bool
touches v = writes v || has_on_read v

-- the field has a setting that no wire has
abbrev pub keeps : Instance → Bool
keeps f = has_one_of (prop.We ∷ prop.Wel ∷ prop.Counter ∷ prop.Hwset ∷ prop.Hwclr ∷ prop.Hwenable ∷ prop.Hwmask ∷ []) f

-- Of the first nodes, each at its number.
pub record AreTouches (e : Elab) (to : ℕ) (ts : List Bool) : Type 0 where
  pub many : length ts ≡ to
  pub each : (k : ℕ) (n : Instance) → k < to → slice_get (nodes_of e) k ≡ Some n → slice_get ts k ≡ Some (touches n)

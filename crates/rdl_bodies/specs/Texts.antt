-- The texts of bodies.
use Rattle.std.specs.Prelude.{◌≡◌, ℕ, List, ◌∷◌, Option, None, Some, option_map, slice_get}
use Rattle.rdl_base.specs.declared.fault.Fault.{Fault}
use Rattle.rdl_tree.specs.declared.item.Item.{Item}
use Rattle.rdl_tree.specs.declared.item.Param.{Param}
use Rattle.rdl_values.specs.Bodies as values
use Rattle.rdl_failures.specs.Noted.{Holds, with_all}
use Rattle.rdl_bodies.specs.Kept.{AreKept, IsPlacedIn, of_names}
use Rattle.rdl_bodies.specs.declared.bodies.Bodies.{Bodies}
use Rattle.rdl_bodies.specs.declared.bodies.Text.{Text}
use Rattle.rdl_bodies.specs.declared.bodies.TextPlace.{TextPlace}

-- the place behind so many items of the text of the nearest of these bodies
abbrev pub place_in : Bodies → List ℕ → List ℕ → Option TextPlace
place_in t (k ∷ ks) (p ∷ ps) = option_map (λ x. record { outer = x.text; upto = p }) (slice_get t.list.items k)
place_in t _ _ = None

-- the items and the parameters are those of the definition at a place, if there is one
abbrev pub IsPlaced : Bodies → Option TextPlace → List Item → List Param → Type 0
IsPlaced t at items params = IsPlacedIn t.texts.items at items params

-- The lists of bodies and sites are the same.
pub record AreSame (old new : Bodies) : Type 0 where
  pub tables : new.tables ≡ old.tables
  pub components : new.components ≡ old.components
  pub list : new.list ≡ old.list
  pub sites : new.sites ≡ old.sites

-- The text of this number stands at the place and has these items and parameters. What it fails by, which is part of what each body with
-- the items fails by, was put in.
pub record HasText (old new : Bodies) (before after : List Fault) (place : Option TextPlace) (items : List Item) (params : List Param) (k : ℕ) : Type 0 where
  pub kept : AreKept new after
  pub same : AreSame old new
  pub fails : List Fault
  pub noted : after ≡ with_all fails before
  pub part : (b : values.Body) → b.items ≡ items → (list : List Fault) → Holds list (of_names b) → Holds list fails
  pub text : Text
  pub here : slice_get new.texts.items k ≡ Some text
  pub place_is : text.place ≡ place
  pub items_are : text.items.now ≡ items
  pub params_are : text.params.now ≡ params

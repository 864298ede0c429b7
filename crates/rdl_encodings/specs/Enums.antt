-- The enumerations of all open bodies.
use Rattle.std.specs.Prelude.{◌≡◌, ℕ, List, Option, None, Some, slice_get}
use Rattle.rdl_tree.specs.declared.value.EnumValues.{EnumValues}
use Rattle.rdl_values.specs.Values.{EnumOf, Names}
use Rattle.rdl_bodies.specs.Sited.{own_names}
use Rattle.rdl_bodies.specs.declared.bodies.Bodies.{Bodies}
use Rattle.rdl_bodies.specs.declared.bodies.Body.{Body}
use Rattle.rdl_encodings.specs.Body.{AreEnumsOf, under}
use Rattle.rdl_encodings.specs.declared.body.BodyEnums.{BodyEnums}
use Rattle.rdl_encodings.specs.declared.enums.Enums.{Enums}

-- the enumeration of a number among those of a body
abbrev pub enum_at : Option BodyEnums → ℕ → Option EnumValues
enum_at None k = None
enum_at (Some b) k = slice_get b.list.now k

-- the same of the body of a number, under a name
abbrev pub enum_found : Enums → List ℕ → ℕ × ℕ → EnumOf
enum_found t name at = under name (enum_at (slice_get t.bodies.items at.0) at.1)

-- the body of this number has the enumerations of these names
abbrev pub HasEnums : Enums → ℕ → Names → Type 0
HasEnums t k names = (b : BodyEnums) × (slice_get t.bodies.items k ≡ Some b) × AreEnumsOf b names

-- Each open body has those of its own names.
pub record AreEnumsOfBodies (t : Enums) (bodies : Bodies) : Type 0 where
  pub each : (k : ℕ) (x : Body) → slice_get bodies.list.items k ≡ Some x → HasEnums t k (own_names x)

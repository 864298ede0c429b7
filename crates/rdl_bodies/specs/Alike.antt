-- Bodies of one text are alike.
use Rattle.std.specs.Prelude.{◌≡◌, ℕ, true, List, ◌∷◌, map, Some, slice_get}
use Rattle.std.specs.List.{AllByRecursion}
use Rattle.rdl_values.specs.Bodies as values
use Rattle.rdl_values.specs.Bodies.{around}
use Rattle.rdl_values.specs.Values.{Around, EnumOf}
use Rattle.rdl_bodies.specs.Sited.{IsOpenAs}
use Rattle.rdl_bodies.specs.declared.bodies.Bodies.{Bodies}
use Rattle.rdl_bodies.specs.declared.bodies.Body.{Body}
use Rattle.rdl_bodies.specs.declared.bodies.Text.{Text}

-- the names of the parameters of some bodies
abbrev pub parameter_names : Around → List (List (List ℕ))
parameter_names ws = map (λ w. map (λ x. x.0) w.bound) ws

-- their enumerations
abbrev pub enums_of : Around → List (List EnumOf)
enums_of ws = map (λ w. w.enums) ws

-- no entry's value of the enumerations of this body's text names anything
abbrev pub IsSteady : Bodies → ℕ → Type 0
IsSteady t k = (x : Body) (w : Text) → slice_get t.list.items k ≡ Some x → slice_get t.texts.items x.text ≡ Some w → w.steady ≡ true

-- so it is with each of these bodies
abbrev pub AreSteady : Bodies → List ℕ → Type 0
AreSteady t ks = AllByRecursion (IsSteady t) ks

-- Two bodies of one text: the same items, parameters of the same names level by level, and where the enumerations are steady the same of
-- these.
pub record AreOfOneText (t : Bodies) (x y : Body) : Type 0 where
  pub items : x.items.now ≡ y.items.now
  pub parameters : (b c : values.Body) → IsOpenAs t x b → IsOpenAs t y c → parameter_names (b.names ∷ around b.outer) ≡ parameter_names (c.names ∷ around c.outer)
  pub enums : AreSteady t x.numbers.now → (b c : values.Body) → IsOpenAs t x b → IsOpenAs t y c → enums_of (b.names ∷ around b.outer) ≡ enums_of (c.names ∷ around c.outer)

-- bodies of one text are alike
abbrev pub ShareTexts : Bodies → Type 0
ShareTexts t = (j k : ℕ) (x y : Body) → slice_get t.list.items j ≡ Some x → slice_get t.list.items k ≡ Some y → x.text ≡ y.text → AreOfOneText t x y

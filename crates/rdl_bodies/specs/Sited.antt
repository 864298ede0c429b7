-- Definitions and bodies by the numbers of the bodies round them.
use Rattle.std.specs.Prelude.{◌≡◌, ◌<◌, ℕ, List, [], ◌∷◌, map, take, Option, None, Some, option_and_then, slice_get}
use Rattle.std.specs.List.{AllByRecursion}
use Rattle.rdl_tree.specs.declared.item.Def.{Def}
use Rattle.rdl_tree.specs.declared.item.Item.{Item}
use Rattle.rdl_tree.specs.declared.item.Param.{Param}
use Rattle.rdl_tree.specs.declared.value.Bound.{Bound as BoundParameter}
use Rattle.rdl_values.specs.Bodies as values
use Rattle.rdl_values.specs.Bodies.{Closure, Scope, around, component_of, scope_at}
use Rattle.rdl_values.specs.Overlaid.{overlaid, plain_of}
use Rattle.rdl_values.specs.Parameters.{Bound}
use Rattle.rdl_values.specs.Seen.{bound_of, listed_enum}
use Rattle.rdl_values.specs.Values.{Around, Names}
use Rattle.rdl_values.specs.Views.{item_is}
use Rattle.rdl_scopes.specs.declared.components.Components.{Components}
use Rattle.rdl_scopes.specs.Scopes.{Shows, items_at}
use Rattle.rdl_bodies.specs.declared.bodies.Bodies.{Bodies}
use Rattle.rdl_bodies.specs.declared.bodies.Body.{Body}
use Rattle.rdl_bodies.specs.declared.bodies.Site.{Site}

-- the numbers are those of open bodies
abbrev pub AreBelow : ℕ → List ℕ → Type 0
AreBelow n ks = AllByRecursion (λ k. k < n) ks

-- the values of parameters: those that their text has at all uses, with the touched ones put over them
abbrev pub values_over : List Param → List BoundParameter → Bound
values_over ps touched = overlaid (plain_of ps) (map bound_of touched)

-- each parameter has a value
abbrev pub AreValued : List Param → List BoundParameter → Type 0
AreValued ps touched = map (λ x. x.0) (plain_of ps) ≡ map (λ b. b.0) (values_over ps touched)

-- the parameters and the enumerations of an open body
abbrev pub own_names : Body → Names
own_names x = record { bound = values_over x.params.now x.touched.now; enums = map listed_enum x.enums.now }

-- The open body of a number has these names, and stands behind the bodies of these other numbers, which are round its text.
pub record HasNames (bodies : List Body) (k : ℕ) (outer : List ℕ) (names : Names) : Type 0 where
  pub body : Body
  pub here : slice_get bodies k ≡ Some body
  pub numbers_are : body.numbers.now ≡ k ∷ outer
  pub behind : AreBelow k outer
  pub names_are : own_names body ≡ names

-- The bodies of these numbers, each in the bodies of those behind it, have these names.
abbrev pub HaveNames : List Body → List ℕ → Around → Type 0
HaveNames bodies [] [] = Unit {0}
HaveNames bodies (k ∷ ks) (names ∷ ws) = HasNames bodies k ks names × HaveNames bodies ks ws
HaveNames bodies _ _ = ⊥

-- The bodies round a text are those of these numbers, each up to so many of its items.
pub record AreRound (t : Bodies) (outer uptos : List ℕ) (scope : Scope) : Type 0 where
  pub shown : Shows t.tables.items t.components.items outer uptos scope
  pub names : HaveNames t.list.items outer (around scope)

-- The definition at a place, in the bodies round its text, with these values of its parameters.
pub record IsAt (t : Bodies) (s : Site) (c : Closure) (bound : Bound) : Type 0 where
  pub def : c.def ≡ s.def.now
  pub round : AreRound t s.outer.now s.uptos.now c.scope
  pub bound_is : bound ≡ values_over s.def.now.params.now s.touched.now

-- the component that the item of a number is
abbrev pub component_at : List Item → ℕ → Option Def
component_at items k = option_and_then (λ i. component_of (item_is i)) (slice_get items k)

-- the definition that stands behind so many items of the nearest of these bodies
abbrev pub def_at : List Components → List ℕ → List ℕ → Option Def
def_at cs (k ∷ ks) (p ∷ ps) = component_at (items_at cs k) p
def_at cs _ _ = None

-- The body is open as this one.
pub record IsOpenAs (t : Bodies) (x : Body) (b : values.Body) : Type 0 where
  pub items_are : b.items ≡ x.items.now
  pub kind_is : b.kind ≡ x.kind
  pub shown : (i : ℕ) → Shows t.tables.items t.components.items x.numbers.now (i ∷ x.uptos.now) (scope_at b (take i x.items.now))
  pub names : HaveNames t.list.items x.numbers.now (b.names ∷ around b.outer)

-- Where the bodies round a text are: those of the nodes above it, and the root's.
use Rattle.std.specs.Prelude.{◌≡◌, ◌⊎◌, List, [], ◌∷◌, ◌++◌}
use Rattle.rdl_tree.specs.declared.item.Item.{Item}
use Rattle.rdl_values.specs.Bodies.{Layer, Scope, Body, scope_at}

-- the body is one of these
abbrev pub IsAmong : List Body → Body → Type 0
IsAmong [] b = ⊥
IsAmong (c ∷ bs) b = (c ≡ b) ⊎ IsAmong bs b

-- items from the front of a body on
abbrev pub IsFront : List Item → List Item → Type 0
IsFront before items = (rest : List Item) × (before ++ rest ≡ items)

-- The nearest of these bodies is one of those, seen from behind items at its front, and the others are those round its text.
pub record IsScopeIn (bodies : List Body) (l : Layer) (outer : Scope) : Type 0 where
  pub body : Body
  pub among : IsAmong bodies body
  pub front : IsFront l.before body.items
  pub same : l ∷ outer ≡ scope_at body l.before

-- So is each.
abbrev pub AreScopesIn : List Body → Scope → Type 0
AreScopesIn bodies [] = Unit {0}
AreScopesIn bodies (l ∷ outer) = IsScopeIn bodies l outer × AreScopesIn bodies outer

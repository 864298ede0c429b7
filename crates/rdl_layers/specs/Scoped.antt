-- The bodies round a text.
use Rattle.std.specs.Prelude.{◌≡◌, ◌≢◌, List, [], ◌++◌, map, Option}
use Rattle.rdl_values.specs.Bodies.{Body, Path, Scope}
use Rattle.rdl_values.specs.Scopes.{AreScopesIn}
use Rattle.rdl_layers.specs.Forms.{Meaning, enum_of, reference}

-- the bodies of a scope, each by its node, the root's by none
abbrev pub bodies_of : Scope → List (Option Path)
bodies_of scope = map (λ l. l.node) scope

-- the one list ends as the other
abbrev pub IsEnd : {X : Type 0} → List X → List X → Type 0
IsEnd {X = X} xs ys = (before : List X) × (before ++ xs ≡ ys)

-- there are bodies round the text, and they are among these
abbrev pub IsWithin : List Body → Scope → Type 0
IsWithin bs scope = (scope ≢ []) × AreScopesIn bs scope

-- So it is of a setting that is looked up from where its text stands.
abbrev pub IsScoped : List Body → Meaning → Type 0
IsScoped bs (enum_of n scope) = IsWithin bs scope
IsScoped bs (reference path item scope place) = IsWithin bs scope
IsScoped bs _ = Unit {0}

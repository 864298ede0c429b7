-- The bodies round a place, and which component a name means there (SystemRDL 2.0, 5.1.4).
use Rattle.std.specs.Option.{option_or}
use Rattle.std.specs.Prelude.{ℕ, Bool, false, cond, List, [], ◌∷◌, ◌++◌, bytes_eq, map, Option, None, Some, option_map}
use Rattle.rdl_tree.specs.declared.expr.Name.{Name}
use Rattle.rdl_tree.specs.declared.item.Def.{Def}
use Rattle.rdl_tree.specs.declared.item.Item.{Item}
use Rattle.rdl_tree.specs.declared.item.Kind.{Kind}
use Rattle.rdl_values.specs.Values.{Names, Around, nearest}
use Rattle.rdl_values.specs.Views as view
use Rattle.rdl_values.specs.Views.{ItemIs, item_is}
pub use Rattle.rdl_values.specs.Paths.{Step, Path, of_signal, below_top}

-- A body, of a node or of the root, as it is seen from a place in it, or in a body inside it: what stands before that place.
pub record Layer : Type 0 where
  pub node : Option Path
  pub before : List Item
  pub names : Names

-- The bodies round a place, the nearest first.
abbrev pub Scope : Type 0
Scope = List Layer

-- what the expressions there may name
abbrev pub around : Scope → Around
around = map (λ l. l.names)

-- A definition, in the bodies round its text.
pub record Closure : Type 0 where
  pub def : Def
  pub scope : Scope

-- A body of the instance tree, the root's or that of a node of a kind, in the bodies round its text.
pub record Body : Type 0 where
  pub node : Option Path
  pub kind : Option Kind
  pub items : List Item
  pub names : Names
  pub outer : Scope

-- the bodies round a place in this body, behind these items
abbrev pub scope_at : Body → List Item → Scope
scope_at b before = record { node = b.node; before = before; names = b.names } ∷ b.outer

-- each element behind those before it
abbrev pub standing_from : {A : Type 0} → List A → List A → List (List A × A)
standing_from before [] = []
standing_from before (x ∷ xs) = (before, x) ∷ standing_from (before ++ (x ∷ [])) xs

abbrev pub standing : {A : Type 0} → List A → List (List A × A)
standing xs = standing_from [] xs

abbrev pub same_name : Name → Name → Bool
same_name m n = bytes_eq m.text.now n.text.now

abbrev pub is_named : List ℕ → Option Name → Bool
is_named n None = false
is_named n (Some m) = bytes_eq m.text.now n

-- the component that an item defines
abbrev pub component_of : ItemIs → Option Def
component_of (view.definition d) = Some d
component_of _ = None

abbrev pub if_named : List ℕ → Option Def → Option Def
if_named n None = None
if_named n (Some d) = cond (is_named n d.name) (Some d) None

-- that of this name
abbrev pub is_component : List ℕ → ItemIs → Option Def
is_component n i = if_named n (component_of i)

-- a definition of this name, behind the items before it
abbrev pub found : List ℕ → List Item × Item → Option (List Item × Def)
found n i = option_map (λ d. (i.0, d)) (is_component n (item_is i.1))

abbrev pub closure_in : Layer → Scope → List Item × Def → Closure
closure_in l outer f = record { def = f.1; scope = record l { before = f.0 } ∷ outer }

-- The component that a name means: that of the nearest body which has one of this name before the place, and there the
-- first. A definition stands before what follows its end, so it is not visible in itself.
abbrev pub component : List ℕ → Scope → Option Closure
component n [] = None
component n (l ∷ outer) = option_or (option_map (closure_in l outer) (nearest (found n) (standing l.before))) (component n outer)

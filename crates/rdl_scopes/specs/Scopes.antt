-- Bodies that stand round each other, by their numbers in the list of all that are open.
use Rattle.std.specs.Prelude.{◌≡◌, ℕ, ◌+◌, List, [], ◌∷◌, drop, take, Option, None, Some, slice_get}
use Rattle.std.specs.List.{AllByRecursion}
use Rattle.rdl_tree.specs.declared.item.Item.{Item}
use Rattle.rdl_values.specs.Bodies.{Closure, Scope, around}
use Rattle.rdl_values.specs.Chained.{chained}
use Rattle.rdl_values.specs.Values.{Names}
use Rattle.rdl_values.specs.Views as view
use Rattle.rdl_values.specs.Views.{item_is}
use Rattle.rdl_failures.specs.Shown.{IsAlike}
use Rattle.rdl_scopes.specs.Named.{AreComponents}
use Rattle.rdl_scopes.specs.declared.components.Components.{Components}
use Rattle.rdl_scopes.specs.declared.scopes.Found.{Found}

-- each table is that of its items
abbrev pub AreOpen : List Components → Type 0
AreOpen cs = AllByRecursion (λ c. AreComponents c c.items.now) cs

abbrev pub items_in : Option Components → List Item
items_in None = []
items_in (Some c) = c.items.now

-- the items of the body of a number
abbrev pub items_at : List Components → ℕ → List Item
items_at cs k = items_in (slice_get cs k)

-- The bodies of these numbers, each up to so many of its items, are those of the scope: they have its items, and their names
-- stand for what its names do.
abbrev pub Shows : List Names → List Components → List ℕ → List ℕ → Scope → Type 0
Shows ts cs [] [] [] = Unit {0}
Shows ts cs (k ∷ ks) (p ∷ ps) (l ∷ ls) = (l.before ≡ take p (items_at cs k)) × IsAlike (chained ts (k ∷ ks)) (around (l ∷ ls)) × Shows ts cs ks ps ls
Shows ts cs _ _ _ = ⊥

-- The closure is the definition that was found, in the bodies round its text.
pub record IsClosureAt (ts : List Names) (cs : List Components) (ks ps : List ℕ) (f : Found) (c : Closure) : Type 0 where
  pub def : c.def ≡ f.def.now
  pub shown : Shows ts cs (drop f.level ks) (f.position ∷ drop (f.level + 1) ps) c.scope

-- What was found is a definition that stands there.
pub record Stands (cs : List Components) (ks : List ℕ) (f : Found) : Type 0 where
  pub number : ℕ
  pub item : Item
  pub body : slice_get ks f.level ≡ Some number
  pub there : slice_get (items_at cs number) f.position ≡ Some item
  pub is : item_is item ≡ view.definition f.def.now

-- The uses of one item of a body.
use Rattle.std.specs.Prelude.{◌≡◌, ◌≢◌, ℕ, List, [], ◌∷◌, ◌++◌, take, map, flat_map, Option, None, MatchOption}
use Rattle.rdl_tree.specs.declared.item.Inst.{Inst}
use Rattle.rdl_tree.specs.declared.item.Item.{Item}
use Rattle.rdl_values.specs.Bodies.{Body, Scope, scope_at, standing_from}
use Rattle.rdl_values.specs.Instances.{given_by}
use Rattle.rdl_values.specs.Parameters.{bound_of}
use Rattle.rdl_values.specs.Paths.{Parent}
use Rattle.rdl_values.specs.Uses.{Seen, Use, parent_of, uses_of_item}
use Rattle.rdl_values.specs.Views.{item_is}
use Rattle.rdl_values.specs.declared.chain.Chain.{Chain}
use Rattle.rdl_uses.specs.Binding.{AreValues}
use Rattle.rdl_scopes.specs.Scopes.{IsClosureAt, Shows, items_at}
use Rattle.rdl_scopes.specs.declared.components.Components.{Components}
use Rattle.rdl_uses.specs.Given.{TypeUsed, given_in, pair_of, seens, use_by}
use Rattle.rdl_uses.specs.Placed.{IsParent}
use Rattle.rdl_children.specs.declared.item.ItemUses.{ItemUses}
use Rattle.rdl_children.specs.declared.item.Surroundings.{Surroundings}

-- a use behind others, as it is seen in a body that stands there
abbrev pub seen_in : Parent → List Body → List Use × Use → Seen
seen_in p above u = record { parent = p; above = above; earlier = u.0; use_ = u.1 }

-- the uses of an item, behind others of the body
abbrev pub item_seens : Parent → List Body → List Use → Scope → Item → List Seen
item_seens p above us scope i = map (seen_in p above) (standing_from us (uses_of_item scope (item_is i)))

-- what is visible in it
abbrev pub chain_of : Surroundings → Chain
chain_of s = record { nearest = None; tables = s.tables; numbers = s.numbers }

-- the items of the nearest of these bodies
abbrev pub nearest_items : List Components → List ℕ → List Item
nearest_items cs [] = []
nearest_items cs (k ∷ ks) = items_at cs k

-- The scene is that of a place behind so many items of the body.
pub record AreSurroundings (s : Surroundings) (position : ℕ) (p : Parent) (scope : Scope) : Type 0 where
  pub shown : Shows s.tables.now s.components.now s.numbers.now (position ∷ s.outer.now) scope
  pub parent_is : IsParent s.parent p

-- The item's uses that give nodes are these, of one definition.
pub record GivesUses (s : Surroundings) (position : ℕ) (r : ItemUses) (us : List Use) (all : List Seen) : Type 0 where
  pub type : TypeUsed
  pub list : List Inst
  pub all_are : all ≡ seens type us list
  pub alias_is : type.alias ≡ r.alias
  pub closure : IsClosureAt s.tables.now s.components.now s.numbers.now (position ∷ s.outer.now) r.found type.closure
  pub pairs : map pair_of r.uses.given.items ≡ flat_map (given_in type) all
  pub values : list ≢ [] → (i : Inst) → AreValues r.found.def.now.params.now (bound_of (use_by type i) type.closure) r.uses.parameters

-- So are they, if any gives some.
abbrev pub GivesItem : Surroundings → ℕ → Option ItemUses → List Use → List Seen → Type 0
GivesItem s position r us all = MatchOption r (flat_map given_by all ≡ []) (λ r. GivesUses s position r us all)

-- The scene is that of the whole body, with these items.
pub record IsBodyScene (s : Surroundings) (items : List Item) (b : Body) : Type 0 where
  pub items_are : b.items ≡ items
  pub scenes : (i : ℕ) → AreSurroundings s i (parent_of b) (scope_at b (take i items))

-- The uses of some items, one item behind the other: of those of each item either none gives a node, or they are listed.
pub data GivesAll (s : Surroundings) : List ItemUses → List Seen → Type 0 where
  none : GivesAll s [] []
  without : {rs : List ItemUses} {ss : List Seen} (failed : List Seen) → GivesAll s rs ss → flat_map given_by failed ≡ [] → GivesAll s rs (ss ++ failed)
  with_ : {rs : List ItemUses} {ss : List Seen} (r : ItemUses) (position : ℕ) (us : List Use) (all : List Seen) → GivesAll s rs ss → GivesUses s position r us all → GivesAll s (rs ++ (r ∷ [])) (ss ++ all)

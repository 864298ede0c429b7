-- The uses of a body that give nodes, item by item.
use Rattle.std.specs.Prelude.{◌≡◌, ◌≢◌, ℕ, List, [], ◌∷◌, ◌++◌, drop, length, map, flat_map, Some}
use Rattle.rdl_base.specs.declared.fault.Fault.{Fault}
use Rattle.rdl_tree.specs.declared.item.Inst.{Inst}
use Rattle.rdl_values.specs.Bodies.{Closure}
use Rattle.rdl_values.specs.Instances.{given_by}
use Rattle.rdl_values.specs.Parameters.{bound_of}
use Rattle.rdl_values.specs.Phase3.{of_use}
use Rattle.rdl_values.specs.Uses.{Seen, Use}
use Rattle.rdl_failures.specs.Noted.{with_all}
use Rattle.rdl_uses.specs.Binding.{AreValues}
use Rattle.rdl_scopes.specs.declared.scopes.Found.{Found}
use Rattle.rdl_uses.specs.Given.{TypeUsed, given_in, pair_of, seens, use_by}
use Rattle.rdl_children.specs.declared.item.ItemUses.{ItemUses}
use Rattle.rdl_bodies.specs.Kept.{AreBelow, AreKept, Grows}
use Rattle.rdl_bodies.specs.Sited.{AreRound, def_at}
use Rattle.rdl_bodies.specs.declared.bodies.Bodies.{Bodies}
use Rattle.rdl_bodies.specs.declared.bodies.Body.{Body}
use Rattle.rdl_children.specs.Children.{AreChildren}
use Rattle.rdl_children.specs.declared.child.Child.{Child}

-- the bodies round the definition that was found in a body
abbrev pub outer_of : Body → Found → List ℕ
outer_of y f = drop f.level y.numbers.now

-- how many items of each stand before it
abbrev pub uptos_at : Body → Found → List ℕ
uptos_at y f = f.position ∷ drop f.level y.uptos.now

-- The definition that was found is that of the closure, where it says.
pub record IsPlaced (t : Bodies) (y : Body) (f : Found) (c : Closure) : Type 0 where
  pub def : c.def ≡ f.def.now
  pub round : AreRound t (outer_of y f) (uptos_at y f) c.scope
  pub defined : def_at t.components.items (outer_of y f) (uptos_at y f) ≡ Some c.def

-- These are all uses of an item of a body.
pub record IsItem (t : Bodies) (y : Body) (r : ItemUses) (us : List Use) (all : List Seen) : Type 0 where
  pub type : TypeUsed
  pub list : List Inst
  pub all_are : all ≡ seens type us list
  pub alias_is : type.alias ≡ r.alias
  pub placed : list ≢ [] → IsPlaced t y r.found type.closure
  pub pairs : map pair_of r.uses.given.items ≡ flat_map (given_in type) all
  pub values : list ≢ [] → (i : Inst) → AreValues r.found.def.now.params.now (bound_of (use_by type i) type.closure) r.uses.parameters

-- These are the uses of some items, and behind those of each item and before the first may stand others that give no nodes.
abbrev pub AreItems : Bodies → Body → List ItemUses → List Seen → Type 0
AreItems t y [] ss = flat_map given_by ss ≡ []
AreItems t y (r ∷ rs) ss = (failed : List Seen) × (us : List Use) × (all : List Seen) × (rest : List Seen) × (ss ≡ failed ++ all ++ rest) × (flat_map given_by failed ≡ []) × IsItem t y r us all × AreItems t y rs rest

-- All failures of the uses were put in, and these are the items that give nodes.
pub record Gives (t : Bodies) (y : Body) (before after : List Fault) (rs : List ItemUses) (ss : List Seen) : Type 0 where
  pub noted : after ≡ with_all (flat_map of_use ss) before
  pub items : AreItems t y rs ss

-- The bodies are what they always are, and the item is one of the body.
pub record CanAdd (t : Bodies) (y : Body) (r : ItemUses) : Type 0 where
  pub held : List Fault
  pub kept : AreKept t held
  pub below : AreBelow (length t.tables.items) y.numbers.now
  pub us : List Use
  pub all : List Seen
  pub item : IsItem t y r us all

-- So are all of these.
pub record CanList (t : Bodies) (y : Body) (rs : List ItemUses) : Type 0 where
  pub held : List Fault
  pub kept : AreKept t held
  pub below : AreBelow (length t.tables.items) y.numbers.now
  pub all : List Seen
  pub items : AreItems t y rs all

-- bodies and sites stay what they always are, and are those before
pub record Extends (t u : Bodies) : Type 0 where
  pub grown : Grows t u
  pub kept : (held : List Fault) → AreKept t held → AreKept u held

-- The uses of an item that give nodes were put behind the others.
pub record AddsUses (t u : Bodies) (y : Body) (r : ItemUses) (old new : List Child) : Type 0 where
  pub more : Extends t u
  pub added : List Child
  pub new_is : new ≡ old ++ added
  pub children : (us : List Use) (all : List Seen) → IsItem t y r us all → AreChildren u added all

-- The uses of the items that give nodes are these.
pub record Lists (t u : Bodies) (y : Body) (rs : List ItemUses) (xs : List Child) : Type 0 where
  pub more : Extends t u
  pub children : (ss : List Seen) → AreItems t y rs ss → AreChildren u xs ss

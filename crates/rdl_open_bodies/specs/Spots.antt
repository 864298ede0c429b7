-- Where the nodes of a tree stand among its open bodies.
use Rattle.std.specs.Prelude.{◌≡◌, ◌≤◌, ℕ, List, [], ◌∷◌, length, take, Option, None, Some, MatchOption, slice_get}
use Rattle.rdl_tree.specs.InOrder.{IsInOrder}
use Rattle.rdl_tree.specs.declared.item.Kind.TheVariants as kind
use Rattle.rdl_tree.specs.declared.node.Elab.{Elab}
use Rattle.rdl_values.specs.Bodies as values
use Rattle.rdl_values.specs.Bodies.{Scope, around, scope_at}
use Rattle.rdl_values.specs.Chained.{chained}
use Rattle.rdl_values.specs.Elaborated.{nodes_of}
use Rattle.rdl_values.specs.Instances.{Instance, body, kind_of}
use Rattle.rdl_values.specs.Top.{root}
use Rattle.rdl_values.specs.Uses.{form_of}
use Rattle.rdl_values.specs.Values.{Around}
use Rattle.rdl_failures.specs.Shown.{IsAlike}
use Rattle.rdl_bodies.specs.Alike.{ShareTexts}
use Rattle.rdl_bodies.specs.Sited.{IsOpenAs}
use Rattle.rdl_bodies.specs.declared.bodies.Bodies.{Bodies}
use Rattle.rdl_bodies.specs.declared.bodies.Body.{Body}
use Rattle.rdl_open_bodies.specs.declared.spots.OpenTree.{OpenTree}
use Rattle.rdl_open_bodies.specs.declared.spots.Spot.{Spot}

-- the body of the node of a number, or the root's
abbrev pub IsBodyAt : Elab → Option ℕ → values.Body → Type 0
IsBodyAt e None b = b ≡ root e.source.now
IsBodyAt e (Some k) b = (n : Instance) × (slice_get (nodes_of e) k ≡ Some n) × (b ≡ body n)

-- The text stands in the body of a node, or of the root, behind so many of its items.
pub record IsRound (e : Elab) (round : Option ℕ) (upto : ℕ) (scope : Scope) : Type 0 where
  pub of : values.Body
  pub body_is : IsBodyAt e round of
  pub within : upto ≤ length of.items
  pub scope_is : scope ≡ scope_at of (take upto of.items)

-- What the open body of this number sees are these names.
pub record Sees (t : Bodies) (k : ℕ) (names : Around) : Type 0 where
  pub open_ : Body
  pub here : slice_get t.list.items k ≡ Some open_
  pub alike : IsAlike (chained t.tables.items open_.numbers.now) names

-- The body of this number is open as this one.
pub record IsOpenAt (t : Bodies) (k : ℕ) (b : values.Body) : Type 0 where
  pub open_ : Body
  pub here : slice_get t.list.items k ≡ Some open_
  pub is : IsOpenAs t open_ b

-- The parts of a node's use are those of its instance. The top, an address map, has none.
abbrev pub HasParts : Instance → Type 0
HasParts n = MatchOption n.use_.inst ((kind_of n ≡ kind.Addrmap) × (n.use_.dims ≡ []) × (n.use_.form.range ≡ None) × (n.use_.form.reset ≡ None)) (λ i. (n.use_.dims ≡ i.dims.now) × (n.use_.form ≡ form_of i))

-- A node among the open bodies: its own, that in which its use stands, and where its definition stands.
pub record IsSpot (e : Elab) (t : Bodies) (o : Spot) (n : Instance) : Type 0 where
  pub own : IsOpenAt t o.body (body n)
  pub use_ : Sees t o.within (around n.use_.scope)
  pub parts : HasParts n
  pub round_is : IsRound e o.round o.upto n.closure.scope
  pub depth_is : length n.closure.scope ≡ o.depth

-- one by one
abbrev pub AreSpots : Elab → Bodies → List Spot → List Instance → Type 0
AreSpots e t [] [] = Unit {0}
AreSpots e t (o ∷ os) (n ∷ ns) = IsSpot e t o n × AreSpots e t os ns
AreSpots e t _ _ = ⊥

-- The root's body is open, and so is that of each node, in order. The items of each stand in order, and those of one text are alike.
pub record IsOpenTree (e : Elab) (x : OpenTree) : Type 0 where
  pub texts : ShareTexts x.bodies
  pub in_order : (k : ℕ) (b : Body) → slice_get x.bodies.list.items k ≡ Some b → IsInOrder b.items.now
  pub root_ : IsOpenAt x.bodies 0 (root e.source.now)
  pub nodes_ : AreSpots e x.bodies x.spots.items (nodes_of e)

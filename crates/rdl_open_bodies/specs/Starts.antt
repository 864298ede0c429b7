-- Nodes whose bodies are to be opened.
use Rattle.std.specs.Prelude.{◌≡◌, ◌≤◌, ◌⊎◌, ℕ, List, [], ◌∷◌, ◌++◌, flat_map, map, Option, None, Some, slice_get}
use Rattle.std.specs.List.{AllByRecursion}
use Rattle.rdl_tree.specs.declared.item.Inst.{Inst}
use Rattle.rdl_tree.specs.declared.item.Item.{Item}
use Rattle.rdl_tree.specs.declared.node.Elab.{Elab}
use Rattle.rdl_tree.specs.declared.node.Node.{Node}
use Rattle.rdl_values.specs.Bodies as values
use Rattle.rdl_values.specs.Bodies.{Closure, Layer, Scope, around, scope_at}
use Rattle.rdl_values.specs.Elaborated.{top_name}
use Rattle.rdl_values.specs.Instances.{Instance, kind_of, most_names, top_of, with_below}
use Rattle.rdl_values.specs.Lineages.{lineages_of}
use Rattle.rdl_values.specs.Paths.{Parent, in_node}
use Rattle.rdl_values.specs.Scopes.{IsFront}
use Rattle.rdl_values.specs.Uses.{Seen, form_of}
use Rattle.rdl_uses.specs.Parts.{StandsAt}
use Rattle.rdl_bodies.specs.Kept.{Grows}
use Rattle.rdl_bodies.specs.Sited.{IsAt}
use Rattle.rdl_bodies.specs.declared.bodies.Bodies.{Bodies}
use Rattle.rdl_bodies.specs.declared.bodies.Site.{Site}
use Rattle.rdl_walk.specs.Walked.{Fits, FitsNode}
use Rattle.rdl_walk.specs.Walking.{AreWalking}
use Rattle.rdl_walk.specs.declared.walk.Walk.{Walk}
use Rattle.rdl_targets.specs.At as targets
use Rattle.rdl_open_bodies.specs.Spots.{AreSpots, HasParts, IsBodyAt, IsSpot, Sees}
use Rattle.rdl_open_bodies.specs.declared.spots.Round.{Round}
use Rattle.rdl_open_bodies.specs.declared.spots.Spot.{Spot}
use Rattle.rdl_open_bodies.specs.declared.spots.Start.{Start}

-- the first of some nodes, the root being none
abbrev pub first_or_root : List (Option ℕ) → Option ℕ
first_or_root [] = None
first_or_root (k ∷ ks) = k

-- The nearest body of the scope is that of a node, or of the root, seen from items at its front; the others are round its text.
pub record IsLayerAt (e : Elab) (k : Option ℕ) (l : Layer) (outer : Scope) : Type 0 where
  pub of : values.Body
  pub body_is : IsBodyAt e k of
  pub node_is : l.node ≡ of.node
  pub names_are : l.names ≡ of.names
  pub outer_is : outer ≡ of.outer
  pub front : IsFront l.before of.items

-- So is each.
abbrev pub AreBodiesAt : Elab → List (Option ℕ) → Scope → Type 0
AreBodiesAt e [] [] = Unit {0}
AreBodiesAt e (k ∷ ks) (l ∷ outer) = IsLayerAt e k l outer × AreBodiesAt e ks outer
AreBodiesAt e _ _ = ⊥

-- the one scope begins with a body of the other, seen from further ahead, and goes on as that does
abbrev pub IsCut : Scope → Scope → Type 0
IsCut [] inner = ⊥
IsCut (l ∷ outer) inner = ((before : List Item) × IsFront before l.before × (inner ≡ record l { before = before } ∷ outer)) ⊎ IsCut outer inner

-- What is known of a node whose body is to be opened, and so many levels below it.
pub record IsStart (e : Elab) (t : Bodies) (x : Start) (levels : ℕ) (n : Instance) : Type 0 where
  pub of : Site
  pub here : slice_get t.sites.items x.site ≡ Some of
  pub at : IsAt t of n.closure n.bound
  pub stands : StandsAt x.standing (in_node n.path (kind_of n))
  pub fits : FitsNode n.path levels
  pub use_ : Sees t x.within (around n.use_.scope)
  pub parts : HasParts n
  pub deep : x.standing.depth ≤ 33
  pub scope : Scope
  pub bodies : AreBodiesAt e x.chain.now scope
  pub cut : IsCut scope n.closure.scope

-- one by one
abbrev pub AreStarts : Elab → Bodies → List Start → ℕ → List Instance → Type 0
AreStarts e t [] levels [] = Unit {0}
AreStarts e t (x ∷ xs) levels (n ∷ ns) = IsStart e t x levels n × AreStarts e t xs levels ns
AreStarts e t _ levels _ = ⊥

-- A use stands there, sees the names of a body, and is of a definition in that body or round it.
pub record IsUseIn (p : Parent) (scope : Scope) (s : Seen) : Type 0 where
  pub parent : s.parent ≡ p
  pub sees : around s.use_.scope ≡ around scope
  pub inst : Inst
  pub inst_is : s.use_.inst ≡ Some inst
  pub dims_are : s.use_.dims ≡ inst.dims.now
  pub form_is : s.use_.form ≡ form_of inst
  pub cut : (c : Closure) → s.use_.closure ≡ Some c → IsCut scope c.scope

-- So are all of these.
abbrev pub AreUsesIn : Parent → Scope → List Seen → Type 0
AreUsesIn p scope ss = AllByRecursion (IsUseIn p scope) ss

-- What the uses of a body have in common.
pub record IsRoundOf (e : Elab) (t : Bodies) (x : Round) (p : Parent) (levels : ℕ) (scope : Scope) : Type 0 where
  pub stands : StandsAt x.standing p
  pub fits : Fits p levels
  pub sees : Sees t x.within (around scope)
  pub bodies : AreBodiesAt e x.chain.now scope

-- The starts of nodes were put behind others.
abbrev pub AddsStarts : Elab → Bodies → ℕ → List Instance → List Start → List Start → Type 0
AddsStarts e t levels ns old new = (added : List Start) × (new ≡ old ++ added) × AreStarts e t added levels ns

-- The body of a node was opened, and the node put behind others.
pub record IsNodeOpen (e : Elab) (old new : Walk) (before after : List Spot) (o : Spot) (n : Instance) : Type 0 where
  pub walking : AreWalking new
  pub grown : Grows old.bodies new.bodies
  pub put : after ≡ before ++ (o ∷ [])
  pub spot_is : IsSpot e new.bodies o n

-- The bodies of nodes were opened, and the nodes put behind others, in order.
pub record AreNodesOpen (e : Elab) (old new : Walk) (before after : List Spot) (ns : List Instance) : Type 0 where
  pub walking : AreWalking new
  pub grown : Grows old.bodies new.bodies
  pub added : List Spot
  pub put : after ≡ before ++ added
  pub spots : AreSpots e new.bodies added ns

-- There is a node of this number, and it starts so.
pub record CanOpenNode (e : Elab) (t : Bodies) (number : ℕ) (x : Start) (levels : ℕ) : Type 0 where
  pub node : Instance
  pub here : targets.IsAt (lineages_of e) number node
  pub start : IsStart e t x levels node

-- These are the numbers of nodes, one by one, and they start so.
pub record CanOpenNodes (e : Elab) (t : Bodies) (rs : List Node) (xs : List Start) (levels : ℕ) : Type 0 where
  pub instances : List Instance
  pub there : targets.AreAt (lineages_of e) (map targets.id_of rs) instances
  pub starts : AreStarts e t xs levels instances

-- The uses in the body of a node were listed, and these are the starts of the nodes in it.
pub record AreInside (e : Elab) (old new : Walk) (xs : List Start) (levels : ℕ) (ns : List Instance) : Type 0 where
  pub walking : AreWalking new
  pub grown : Grows old.bodies new.bodies
  pub starts : AreStarts e new.bodies xs levels ns

-- the top and all nodes below it
abbrev pub below_top_of : Elab → List Instance
below_top_of e = flat_map (with_below most_names) (top_of (Some (top_name e)) e.source.now)

-- The site of the top was listed, and this is its start.
pub record IsTopStart (e : Elab) (old new : Walk) (o : Option Start) : Type 0 where
  pub walking : AreWalking new
  pub grown : Grows old.bodies new.bodies
  pub x : Start
  pub is : o ≡ Some x
  pub node : Instance
  pub top_is : top_of (Some (top_name e)) e.source.now ≡ node ∷ []
  pub start : IsStart e new.bodies x most_names node

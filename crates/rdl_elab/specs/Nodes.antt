-- One node, and the nodes of one body.
use Rattle.std.specs.Prelude.{◌≡◌, ℕ, List, map, Some, slice_get}
use Rattle.std.specs.Option.{option_copied}
use Rattle.rdl_tree.specs.declared.node.Node.{Node, out-Node}
use Rattle.rdl_values.specs.Bodies as values
use Rattle.rdl_values.specs.Elaborated.{around_body}
use Rattle.rdl_values.specs.Instances as instances
use Rattle.rdl_values.specs.Instances.{Instance}
use Rattle.rdl_values.specs.Seen.{around_of}
use Rattle.rdl_values.specs.Firsts.{AreFirsts}
use Rattle.rdl_bodies.specs.Kept.{Grows}
use Rattle.rdl_bodies.specs.Sited.{IsOpenAs}
use Rattle.rdl_bodies.specs.declared.bodies.Bodies.{Bodies}
use Rattle.rdl_bodies.specs.declared.bodies.Body.{Body}
use Rattle.rdl_walk.specs.Walking.{AreWalking}
use Rattle.rdl_walk.specs.declared.walk.Walk.{Walk}
use Rattle.rdl_elab.specs.declared.heads.Head.{Head}
use Rattle.rdl_elab.specs.declared.opening.Opened.{Opened}
use Rattle.rdl_elab.specs.declared.siblings.Siblings.{Siblings}

-- The node has this number, what its head and its definition say, and these nodes in its body.
pub record IsMadeOf (number : ℕ) (h : Head) (o : Opened) (below : List Node) (r : Node) : Type 0 where
  pub number_is : (out-Node r).id ≡ number
  pub name_is : (out-Node r).name.now ≡ h.name.text.now
  pub index_is : (out-Node r).index.now ≡ h.index.now
  pub kind_is : (out-Node r).kind ≡ o.def.now.kind
  pub def_is : (out-Node r).def.now ≡ o.def.now
  pub inst_is : option_copied (out-Node r).inst ≡ option_copied h.inst
  pub alias_is : (out-Node r).alias ≡ h.alias
  pub env_is : around_of (out-Node r).env.now ≡ around_of o.env.now
  pub children_are : (out-Node r).children.now ≡ below
  pub place_is : (out-Node r).place ≡ h.name.place

abbrev pub name_of : Node → List ℕ
name_of r = (out-Node r).name.now

-- each name has its first place among the nodes
abbrev pub AreSiblings : Siblings → Type 0
AreSiblings b = AreFirsts b.places (map name_of b.nodes.items)

-- There is an open body of this number.
pub record CanShow (t : Bodies) (number : ℕ) : Type 0 where
  pub opened : Body
  pub here : slice_get t.list.items number ≡ Some opened
  pub shown : values.Body
  pub open_ : IsOpenAs t opened shown

-- The body of the node is open, with what is visible in it.
pub record IsShown (old new : Walk) (o : Opened) (n : Instance) : Type 0 where
  pub walking : AreWalking new
  pub grown : Grows old.bodies new.bodies
  pub def_is : o.def.now ≡ n.closure.def
  pub env_is : around_of o.env.now ≡ around_body n
  pub opened : Body
  pub here : slice_get new.bodies.list.items o.number ≡ Some opened
  pub open_ : IsOpenAs new.bodies opened (instances.body n)

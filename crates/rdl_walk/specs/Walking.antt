-- What a walk knows at any time.
use Rattle.std.specs.Prelude.{◌≡◌, ◌≤◌, ◌+◌, ℕ, List, Option, None, Some, flat_map, slice_get}
use Rattle.rdl_base.specs.declared.fault.Fault.{Fault}
use Rattle.rdl_tree.specs.declared.item.Kind.{Kind}
use Rattle.rdl_values.specs.Bodies as values
use Rattle.rdl_values.specs.Instances.{most_nodes}
use Rattle.rdl_values.specs.Phase3.{of_use}
use Rattle.rdl_values.specs.Uses.{Seen, parent_of, seen}
use Rattle.rdl_failures.specs.Noted.{Holds, with_all}
use Rattle.rdl_uses.specs.declared.standing.Standing.{Standing}
use Rattle.rdl_uses.specs.Placed.{IsParent}
use Rattle.rdl_uses.specs.declared.holder.Holder.{Holder}
use Rattle.rdl_uses.specs.declared.holder.Holder.TheVariants as holder
use Rattle.rdl_uses.specs.declared.holder.Parent.{Parent}
use Rattle.rdl_bodies.specs.Kept.{AreKept, Grows}
use Rattle.rdl_bodies.specs.Sited.{IsOpenAs}
use Rattle.rdl_bodies.specs.declared.bodies.Bodies.{Bodies}
use Rattle.rdl_bodies.specs.declared.bodies.Body.{Body}
use Rattle.rdl_children.specs.Children.{AreChildren}
use Rattle.rdl_children.specs.declared.child.Child.{Child}
use Rattle.rdl_walk.specs.declared.walk.Judgement.{Judgement}
use Rattle.rdl_walk.specs.declared.walk.Walk.{Walk}

-- what holds the uses of a body of nodes of a kind, or of the root
abbrev pub holder_for : Option Kind → Holder
holder_for None = holder.Root
holder_for (Some k) = holder.Node k

abbrev pub parent_at : Option Kind → Standing → Parent
parent_at k at = record { holder = holder_for k; standing = at }

-- A judgement holds of each body that is open as its own and stands there: its failures are held, and its children are these.
pub record IsKnown (t : Bodies) (held : List Fault) (j : Judgement) : Type 0 where
  pub body : Body
  pub here : slice_get t.list.items j.body ≡ Some body
  pub judged : (above : List values.Body) (b : values.Body) → IsOpenAs t body b → IsParent (parent_at body.kind j.standing) (parent_of b) → Holds held (flat_map of_use (seen above b)) × AreChildren t j.children.now (seen above b)

-- All of it.
pub record AreWalking (w : Walk) : Type 0 where
  pub kept : AreKept w.bodies w.failures
  pub known : (k : ℕ) (j : Judgement) → slice_get w.judgements.items k ≡ Some j → IsKnown w.bodies w.failures j
  pub counted : w.count ≤ most_nodes + 1

-- There is an open body of this number, which stands there.
pub record CanAsk (t : Bodies) (number : ℕ) (standing : Standing) : Type 0 where
  pub body : Body
  pub here : slice_get t.list.items number ≡ Some body
  pub shown : values.Body
  pub open_ : IsOpenAs t body shown
  pub stands : IsParent (parent_at body.kind standing) (parent_of shown)

-- The failures of these uses were put in, and these are those that give nodes.
pub record IsAsked (old new : Walk) (xs : List Child) (ss : List Seen) : Type 0 where
  pub walking : AreWalking new
  pub grown : Grows old.bodies new.bodies
  pub count : new.count ≡ old.count
  pub noted : new.failures ≡ with_all (flat_map of_use ss) old.failures
  pub children : AreChildren new.bodies xs ss

-- What a walk over some nodes does.
use Rattle.std.specs.Prelude.{◌≡◌, ◌+◌, ℕ, zero, suc, Bool, true, false, cond, List, [], ◌∷◌, ◌++◌, ◌==◌, length, min, nat_lt, Some, slice_get}
use Rattle.std.specs.List.{AllByRecursion}
use Rattle.rdl_base.specs.declared.fault.Fault.{Fault}
use Rattle.rb_base.specs.declared.place.Place.{Place}
use Rattle.rdl_base.specs.declared.rule.Rule.TheVariants as rules
use Rattle.rdl_values.specs.Bodies.{Closure, Path, of_signal, below_top}
use Rattle.rdl_values.specs.Faults.{at_, when}
use Rattle.rdl_values.specs.Instances.{Instance, kind_of, most_nodes}
use Rattle.rdl_values.specs.Parameters.{Bound}
use Rattle.rdl_values.specs.Paths.{Parent, nowhere, at_root, in_node, path_in}
use Rattle.rdl_values.specs.Phase3.{of_node}
use Rattle.rdl_values.specs.Uses.{Seen}
use Rattle.rdl_failures.specs.Noted.{with_all}
use Rattle.rdl_uses.specs.Parts.{StandsAt}
use Rattle.rdl_uses.specs.declared.standing.Standing.{Standing}
use Rattle.rdl_bodies.specs.Kept.{Grows}
use Rattle.rdl_bodies.specs.Sited.{IsAt}
use Rattle.rdl_bodies.specs.declared.bodies.Bodies.{Bodies}
use Rattle.rdl_bodies.specs.declared.bodies.Site.{Site}
use Rattle.rdl_children.specs.Children.{AreChildren, IsChild}
use Rattle.rdl_children.specs.declared.child.Child.{Child}
use Rattle.rdl_walk.specs.Walking.{AreWalking}
use Rattle.rdl_walk.specs.declared.walk.Walk.{Walk}

-- the element of a use that has these indices
abbrev pub element_of : Seen → Closure → Bound → List ℕ → Instance
element_of s c bound is = record { above = s.above; path = path_in s.parent (record { name = s.use_.name.text.now; index = is }); use_ = s.use_; closure = c; bound = bound }

-- E9 at the first node that isn't judged
abbrev pub over : ℕ → Place → List Fault
over c at = when (c == most_nodes) (at_ rules.E9 at)

-- what fails of a node behind so many others
abbrev pub fails_at : ℕ → Instance → List Fault
fails_at c n = cond (nat_lt c most_nodes) (of_node n) (over c n.use_.name.place)

-- what fails of some nodes behind so many others
abbrev pub fails_from : ℕ → List Instance → List Fault
fails_from c [] = []
fails_from c (n ∷ ns) = fails_at c n ++ fails_from (suc c) ns

-- a count that goes one above the nodes that are judged
abbrev pub capped : ℕ → ℕ
capped n = min n (most_nodes + 1)

-- The nodes were counted, and their failures put in.
pub record IsWalked (old new : Walk) (ns : List Instance) : Type 0 where
  pub walking : AreWalking new
  pub grown : Grows old.bodies new.bodies
  pub counted : new.count ≡ capped (old.count + length ns)
  pub noted : new.failures ≡ with_all (fails_from old.count ns) old.failures

-- A node was counted: it is judged, or it isn't, and if it is the first one then E9 was put in.
pub record IsCounted (place : Place) (judged : Bool) (before after : ℕ) (old new : List Fault) : Type 0 where
  pub is_judged : judged ≡ nat_lt before most_nodes
  pub counted : after ≡ capped (before + 1)
  pub noted : new ≡ with_all (cond judged [] (over before place)) old

-- Below a node there are levels where it stands below the top; a signal at the root has none.
abbrev pub FitsNode : Path → ℕ → Type 0
FitsNode (of_signal s) levels = levels ≡ 0
FitsNode (below_top ss) levels = Unit {0}

-- So it is with the uses of a body.
abbrev pub Fits : Parent → ℕ → Type 0
Fits nowhere levels = ⊥
Fits at_root levels = levels ≡ 0
Fits (in_node (of_signal s) k) levels = ⊥
Fits (in_node (below_top ss) k) levels = Unit {0}

-- the uses stand there
abbrev pub StandIn : Parent → List Seen → Type 0
StandIn p ss = AllByRecursion (λ s. s.parent ≡ p) ss

-- There is a site of this number and a node of it, and the uses in its body stand there.
pub record CanVisit (t : Bodies) (number : ℕ) (place : Place) (standing : Standing) (levels : ℕ) : Type 0 where
  pub site : Site
  pub here : slice_get t.sites.items number ≡ Some site
  pub node : Instance
  pub at : IsAt t site node.closure node.bound
  pub stands : StandsAt standing (in_node node.path (kind_of node))
  pub place_is : node.use_.name.place ≡ place
  pub fits : FitsNode node.path levels

-- These are the uses of a body that give nodes, and they stand there.
pub record CanVisitAll (t : Bodies) (xs : List Child) (standing : Standing) (levels : ℕ) : Type 0 where
  pub parent : Parent
  pub uses : List Seen
  pub children : AreChildren t xs uses
  pub stand : StandIn parent uses
  pub stands : StandsAt standing parent
  pub fits : Fits parent levels

-- This is a use that gives nodes, and it stands there.
pub record CanVisitChild (t : Bodies) (x : Child) (standing : Standing) (levels : ℕ) : Type 0 where
  pub use_ : Seen
  pub child : IsChild t x use_
  pub stands : StandsAt standing use_.parent
  pub fits : Fits use_.parent levels

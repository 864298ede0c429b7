-- The uses of a body that give nodes.
use Rattle.std.specs.Prelude.{◌≡◌, ℕ, true, List, [], ◌∷◌, ◌++◌, map, flat_map, Option, Some, slice_get, Ok}
use Rattle.std.specs.List.{AllByRecursion}
use Rattle.rdl_base.specs.declared.fault.Fault.{Fault}
use Rattle.rdl_tree.specs.declared.expr.Name.{Name}
use Rattle.rdl_tree.specs.declared.item.Inst.{Inst}
use Rattle.rdl_values.specs.Bodies as values
use Rattle.rdl_values.specs.Bodies.{Closure}
use Rattle.rdl_values.specs.Instances.{given_by}
use Rattle.rdl_values.specs.NoNode.{no_node}
use Rattle.rdl_values.specs.Parameters.{Bound, bound_of}
use Rattle.rdl_values.specs.Parts.{dims_of, is_empty}
use Rattle.rdl_values.specs.Phase3.{of_use}
use Rattle.rdl_values.specs.Uses.{Seen, parent_of}
use Rattle.rdl_failures.specs.Noted.{with_all}
use Rattle.rdl_uses.specs.Given.{pair_of}
use Rattle.rdl_uses.specs.Placed.{IsParent}
use Rattle.rdl_uses.specs.declared.holder.Parent.{Parent}
use Rattle.rdl_uses.specs.declared.instances.SizedInst.{SizedInst}
use Rattle.rdl_bodies.specs.Kept.{AreKept, Grows}
use Rattle.rdl_bodies.specs.Sited.{IsAt, IsOpenAs}
use Rattle.rdl_bodies.specs.declared.bodies.Bodies.{Bodies}
use Rattle.rdl_bodies.specs.declared.bodies.Body.{Body}
use Rattle.rdl_bodies.specs.declared.bodies.Site.{Site}
use Rattle.rdl_children.specs.declared.child.Child.{Child}

-- The use gives nodes, and is this.
pub record IsChild (t : Bodies) (x : Child) (s : Seen) : Type 0 where
  pub closure : Closure
  pub closure_is : s.use_.closure ≡ Some closure
  pub bound : Bound
  pub bound_is : bound_of s.use_ closure ≡ Ok bound
  pub site : Site
  pub site_is : slice_get t.sites.items x.site ≡ Some site
  pub at : IsAt t site closure bound
  pub dims_are : dims_of s.use_ closure.def.kind ≡ Ok x.dims.now
  pub clean : is_empty (no_node s) ≡ true
  pub inst_is : s.use_.inst ≡ Some x.inst.now
  pub name_is : s.use_.name ≡ x.inst.now.name
  pub alias_is : s.use_.alias ≡ x.alias

-- Of some uses these are those that give nodes, in order.
pub data AreChildren (t : Bodies) : List Child → List Seen → Type 0 where
  none : AreChildren t [] []
  without : {xs : List Child} {s : Seen} {ss : List Seen} → given_by s ≡ [] → AreChildren t xs ss → AreChildren t xs (s ∷ ss)
  with_ : {x : Child} {xs : List Child} {s : Seen} {ss : List Seen} → IsChild t x s → AreChildren t xs ss → AreChildren t (x ∷ xs) (s ∷ ss)

-- an instance with its dimensions
abbrev pub pair_in : Child → Inst × List ℕ
pair_in x = (x.inst.now, x.dims.now)

-- these are the instances of one site
pub record AreMade (site : ℕ) (alias : Option Name) (given : List SizedInst) (added : List Child) : Type 0 where
  pub pairs : map pair_in added ≡ map pair_of given
  pub own : AllByRecursion (λ x. (x.site ≡ site) × (x.alias ≡ alias)) added

-- One was put behind the others.
abbrev pub AddsOne : ℕ → Option Name → SizedInst → List Child → List Child → Type 0
AddsOne site alias one old new = (x : Child) × (new ≡ old ++ (x ∷ [])) × (pair_in x ≡ pair_of one) × (x.site ≡ site) × (x.alias ≡ alias)

-- They were put behind the others.
abbrev pub AddsGiven : ℕ → Option Name → List SizedInst → List Child → List Child → Type 0
AddsGiven site alias given old new = (added : List Child) × (new ≡ old ++ added) × AreMade site alias given added

-- There is an open body of this number, which stands there.
pub record CanJudge (t : Bodies) (number : ℕ) (parent : Parent) : Type 0 where
  pub body : Body
  pub here : slice_get t.list.items number ≡ Some body
  pub shown : values.Body
  pub open_ : IsOpenAs t body shown
  pub stands : IsParent parent (parent_of shown)

-- All failures of the uses were put in, and these are those that give nodes.
pub record IsJudged (old new : Bodies) (before after : List Fault) (xs : List Child) (ss : List Seen) : Type 0 where
  pub kept : AreKept new after
  pub grown : Grows old new
  pub noted : after ≡ with_all (flat_map of_use ss) before
  pub children : AreChildren new xs ss

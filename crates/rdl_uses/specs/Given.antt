-- The uses of one type in a body, and which of them give nodes.
use Rattle.std.specs.Prelude.{◌≡◌, ℕ, List, [], map, flat_map, cond, Option, Some, option_to_list}
use Rattle.std.specs.Result.{result_ok}
use Rattle.rb_base.specs.declared.place.Place.{Place}
use Rattle.rdl_base.specs.declared.fault.Fault.{Fault}
use Rattle.rdl_tree.specs.declared.expr.Name.{Name}
use Rattle.rdl_tree.specs.declared.item.Arg.{Arg}
use Rattle.rdl_tree.specs.declared.item.Inst.{Inst}
use Rattle.rdl_values.specs.Bodies.{Body, Closure, Scope, around, standing_from}
use Rattle.rdl_values.specs.NoNode.{no_node}
use Rattle.rdl_values.specs.Parts.{dims_of, is_empty}
use Rattle.rdl_values.specs.Paths as paths
use Rattle.rdl_values.specs.Uses.{Seen, Use, form_of}
use Rattle.rdl_values.specs.declared.chain.Chain.{Chain}
use Rattle.rdl_failures.specs.Noted.{Holds}
use Rattle.rdl_failures.specs.Shown.{IsShown}
use Rattle.rdl_uses.specs.Judged.{of_values}
use Rattle.rdl_uses.specs.Placed.{IsParent}
use Rattle.rdl_uses.specs.declared.holder.Parent.{Parent}
use Rattle.rdl_uses.specs.declared.instances.SizedInst.{SizedInst}
use Rattle.rdl_uses.specs.declared.instances.Visited.{Visited}

-- A type that is used in a body, with its arguments; what its name means; and where the body stands.
pub record TypeUsed : Type 0 where
  pub alias : Option Name
  pub args : List Arg
  pub place : Place
  pub closure : Closure
  pub scope : Scope
  pub parent : paths.Parent
  pub above : List Body

-- the use by an instance
abbrev pub use_by : TypeUsed → Inst → Use
use_by t i = record { inst = Some i; name = i.name; dims = i.dims.now; form = form_of i; args = t.args; alias = t.alias; type_place = t.place; closure = Some t.closure; scope = t.scope }

-- a use behind others, as it is seen in the body
abbrev pub seen_behind : TypeUsed → List Use × Use → Seen
seen_behind t u = record { parent = t.parent; above = t.above; earlier = u.0; use_ = u.1 }

-- the uses by some instances, behind others
abbrev pub seens : TypeUsed → List Use → List Inst → List Seen
seens t us is = map (seen_behind t) (standing_from us (map (use_by t) is))

-- The code's type is this, in a body that stands there; and the failures of its arguments and its parameters are held.
pub record IsType (v : Visited) (parent : Parent) (visible : Chain) (held : List Fault) (t : TypeUsed) : Type 0 where
  pub def : t.closure.def ≡ v.def.now
  pub alias_is : t.alias ≡ v.alias
  pub shown : IsShown visible (around t.scope)
  pub parent_is : IsParent parent t.parent
  pub holds : (i : Inst) → Holds held (of_values (use_by t i) t.closure)
  pub given : (i : Inst) → v.given ≡ is_empty (of_values (use_by t i) t.closure)

-- an instance with its dimensions
abbrev pub pair_of : SizedInst → Inst × List ℕ
pair_of g = (g.inst.now, g.dims.items)

-- that of a use that gives nodes
abbrev pub given_in : TypeUsed → Seen → List (Inst × List ℕ)
given_in t s = cond (is_empty (no_node s)) (flat_map (λ i. map (λ ds. (i, ds)) (option_to_list (result_ok (dims_of s.use_ t.closure.def.kind)))) (option_to_list s.use_.inst)) []

-- An instance as a use that is seen in its body.
use Rattle.std.specs.Prelude.{◌≡◌, List, ◌++◌, Option, Some}
use Rattle.rdl_base.specs.declared.fault.Fault.{Fault}
use Rattle.rdl_tree.specs.declared.expr.Name.{Name}
use Rattle.rdl_tree.specs.declared.item.Def.{Def}
use Rattle.rdl_tree.specs.declared.item.Inst.{Inst}
use Rattle.rdl_values.specs.Bodies.{Closure}
use Rattle.rdl_values.specs.Faults.{failures}
use Rattle.rdl_values.specs.Parameters.{bad_arguments, bound_of}
use Rattle.rdl_values.specs.Uses.{Seen, Use}
use Rattle.rdl_values.specs.declared.chain.Chain.{Chain}
use Rattle.rdl_uses.specs.Parts.{IsUseOf}
use Rattle.rdl_uses.specs.Before.{AreEarlier}
use Rattle.rdl_uses.specs.Placed.{IsParent}
use Rattle.rdl_uses.specs.declared.earlier.Earlier.{Earlier}
use Rattle.rdl_uses.specs.declared.holder.Parent.{Parent}

-- The use, where it is seen, is this instance of a definition that is visible, behind these uses of its body.
pub record IsSeen (i : Inst) (d : Def) (alias : Option Name) (parent : Parent) (v : Chain) (e : Earlier) (s : Seen) (c : Closure) : Type 0 where
  pub closure : s.use_.closure ≡ Some c
  pub def : c.def ≡ d
  pub use_is : IsUseOf i v s.use_
  pub alias_is : s.use_.alias ≡ alias
  pub parent_is : IsParent parent s.parent
  pub earlier_is : AreEarlier e s.earlier

-- the failures of a use's arguments and of its definition's parameters
abbrev pub of_values : Use → Closure → List Fault
of_values u c = bad_arguments u c ++ failures (bound_of u c)

-- The values of a definition's parameters at a use (SystemRDL 2.0, 5.1.1).
use Rattle.std.specs.Prelude.{ℕ, Bool, not, ◌||◌, cond, List, [], ◌∷◌, ◌++◌, bytes_eq, flat_map, Option, None, Some, Ok}
use Rattle.std.specs.List.{list_any}
use Rattle.rdl_base.specs.declared.fault.Fault.{Fault}
use Rattle.rb_base.specs.declared.place.Place.{Place}
use Rattle.rdl_base.specs.declared.rule.Rule.TheVariants as rules
use Rattle.rdl_tree.specs.declared.expr.Expr.{Expr}
use Rattle.rdl_tree.specs.declared.expr.Name.{Name}
use Rattle.rdl_tree.specs.declared.item.Arg.{Arg}
use Rattle.rdl_tree.specs.declared.item.Param.{Param}
use Rattle.rdl_values.specs.Bodies.{Scope, Closure, around, standing, same_name}
use Rattle.rdl_values.specs.Faults.{at_, when}
use Rattle.rdl_values.specs.Uses.{Use}
use Rattle.rdl_values.specs.Values.{Val, Around, Outcome, fails, then, or_fails, value_of, as_type, start}

-- A parameter's values so far, in order.
abbrev pub Bound : Type 0
Bound = List (List ℕ × Val)

-- the first argument of the name
abbrev pub argument : List Arg → Name → Option Expr
argument [] n = None
argument (a ∷ later) n = cond (same_name a.name n) (Some a.value) (argument later n)

-- an expression's value, as the parameter's type has it
abbrev pub typed : Around → Param → Expr → Outcome Val
typed env p e = then (value_of env e) λ v. or_fails (as_type p.ptype v) rules.V2 (start e)

-- Its argument, which names what is visible at the use; else its default, which is not evaluated beside an argument; E6: or neither.
abbrev pub given : Around → Around → Place → Param → Option Expr → Option Expr → Outcome Val
given outside inside place p (Some e) default = typed outside p e
given outside inside place p None (Some e) = typed inside p e
given outside inside place p None None = fails rules.E6 place

abbrev pub is_bound : Name → Bound → Bool
is_bound n bound = list_any (λ b. bytes_eq b.0 n.text.now) bound

-- A parameter behind those that are bound. Its default names these, and what is visible round the definition's text. E6: two of one name.
abbrev pub value_at : Use → Scope → Bound → Param → Outcome Val
value_at u scope bound p = cond (is_bound p.name bound) (fails rules.E6 p.name.place) (given (around u.scope) (record { bound = bound; enums = [] } ∷ around scope) u.type_place p (argument u.args p.name) p.default)

abbrev pub bound_from : Use → Scope → Bound → List Param → Outcome Bound
bound_from u scope bound [] = Ok bound
bound_from u scope bound (p ∷ ps) = then (value_at u scope bound p) λ v. bound_from u scope (bound ++ ((p.name.text.now, v) ∷ [])) ps

-- The values of all parameters, or the failure of the first that has none. What is behind it is not evaluated.
abbrev pub bound_of : Use → Closure → Outcome Bound
bound_of u c = bound_from u c.scope [] c.def.params.now

-- E6: an argument of no parameter, or of one that has an argument before
abbrev pub is_bad_argument : List Param → List Arg → Arg → Bool
is_bad_argument ps before a = not (list_any (λ p. same_name p.name a.name) ps) || list_any (λ b. same_name b.name a.name) before

abbrev pub bad_arguments : Use → Closure → List Fault
bad_arguments u c = flat_map (λ a. when (is_bad_argument c.def.params.now a.0 a.1) (at_ rules.E6 a.1.name.place)) (standing u.args)

-- An instance as the use of a definition, where it stands, and the failures of its parts.
use Rattle.std.specs.Prelude.{◌≡◌, ℕ, ◌+◌, true, ◌&&◌, ◌||◌, List, [], ◌∷◌, ◌++◌, length, nat_lt, flat_map, Option, MatchOption, IsErr, Vec, option_to_list, Ok}
use Rattle.std.specs.List.{list_any}
use Rattle.std.specs.Global.{Global}
use Rattle.std.specs.Result.{is_ok, result_ok}
use Rattle.rdl_base.specs.declared.fault.Fault.{Fault}
use Rattle.rdl_base.specs.declared.rule.Rule.TheVariants as rules
use Rattle.rdl_tree.specs.declared.expr.Expr.{Expr}
use Rattle.rdl_tree.specs.declared.item.Inst.{Inst}
use Rattle.rdl_tree.specs.declared.item.Kind.{Kind}
use Rattle.rdl_values.specs.Bodies.{around}
use Rattle.rdl_values.specs.Faults.{at_, failures, when}
use Rattle.rdl_values.specs.NoNode.{most_names}
use Rattle.rdl_values.specs.Parts.{bad_parts, bad_array, is_zero, long_path}
use Rattle.rdl_values.specs.Paths.{Parent, Step, depth_in, joined, steps_in}
use Rattle.rdl_values.specs.Uses.{Form, Use, form_of, values}
use Rattle.rdl_values.specs.Values.{Around, Outcome, number_of}
use Rattle.rdl_values.specs.declared.chain.Chain.{Chain}
use Rattle.rdl_failures.specs.Shown.{IsShown}
use Rattle.rdl_uses.specs.declared.dims.Dims.{Dims}
use Rattle.rdl_uses.specs.declared.standing.Standing.{Standing}

-- The use of a definition by this instance, whose expressions see what is visible.
pub record IsUseOf (i : Inst) (v : Chain) (u : Use) : Type 0 where
  pub name : u.name ≡ i.name
  pub dims : u.dims ≡ i.dims.now
  pub form : u.form ≡ form_of i
  pub shown : IsShown v (around u.scope)

-- so many bytes stand before the name in the text of its path
abbrev pub HasPrefix : ℕ → Parent → Type 0
HasPrefix prefix p = (s : Step) → length (joined (steps_in p s)) ≡ prefix + length (joined (s ∷ []))

pub record StandsAt (at : Standing) (p : Parent) : Type 0 where
  pub depth : at.depth ≡ depth_in p
  pub prefix : HasPrefix at.prefix p

-- the first V failure of an expression
abbrev pub fails_of : Around → Expr → List Fault
fails_of env e = failures (number_of env e)

-- the parts behind the dimensions
abbrev pub other_parts : Form → List Expr
other_parts f = flat_map (λ r. r.0 ∷ r.1 ∷ []) (option_to_list f.range) ++ option_to_list f.reset ++ option_to_list f.at ++ option_to_list f.stride ++ option_to_list f.align

-- One number is put behind the others, or fails.
pub record IsAdded (o : Outcome ℕ) (before after : Dims) : Type 0 where
  pub items : after.numbers.items ≡ before.numbers.items ++ option_to_list (result_ok o)
  pub clean : after.clean ≡ (before.clean && is_ok o)
  pub zero : after.zero ≡ (before.zero || is_zero o)

-- The numbers of these dimensions, where each has one; and whether one is 0.
pub record AreDims (env : Around) (es : List Expr) (d : Dims) : Type 0 where
  pub clean : d.clean ≡ is_ok (values env es)
  pub numbers : d.clean ≡ true → values env es ≡ Ok d.numbers.items
  pub zero : d.zero ≡ list_any (λ e. is_zero (number_of env e)) es

-- the numbers, where there is no failure
abbrev pub AreNumbers : Outcome (List ℕ) → Option (Vec ℕ Global) → Type 0
AreNumbers o r = MatchOption r (IsErr o) (λ ns. o ≡ Ok ns.items)

-- the failures of a use's parts, and of where it stands: V rules, E8, E10 and E11
abbrev pub of_parts : Parent → Use → Kind → List Fault
of_parts p u k = bad_parts u ++ when (nat_lt most_names (depth_in p)) (at_ rules.E8 u.name.place) ++ bad_array u k ++ long_path p u k

-- The parts of an instance's form (SystemRDL 2.0, 5.1.2).
use Rattle.std.specs.Prelude.{ℕ, ◌-◌, Bool, true, false, ◌||◌, cond, List, [], ◌∷◌, ◌++◌, length, nat_lt, ◌==◌, map, flat_map, option_to_list, Ok, Err}
use Rattle.std.specs.List.{list_any}
use Rattle.rdl_base.specs.declared.fault.Fault.{Fault}
use Rattle.rdl_base.specs.declared.rule.Rule.TheVariants as rules
use Rattle.rdl_tree.specs.declared.expr.Expr.{Expr}
use Rattle.rdl_tree.specs.declared.item.Kind.{Kind}
use Rattle.rdl_tree.specs.declared.item.Kind.TheVariants as kind
use Rattle.rdl_values.specs.Bodies.{Step, around}
use Rattle.rdl_values.specs.Faults.{at_, when, failures}
use Rattle.rdl_values.specs.Paths.{Parent, steps_in, joined}
use Rattle.rdl_values.specs.Uses.{Use, values}
use Rattle.rdl_values.specs.Values.{Outcome, number_of}

-- fields and signals are no arrays: their bracket is their width
abbrev pub is_unit : Kind → Bool
is_unit kind.Field = true
is_unit kind.Signal = true
is_unit _ = false

-- its dimensions, the outermost first
abbrev pub dims_of : Use → Kind → Outcome (List ℕ)
dims_of u k = cond (is_unit k) (Ok []) (values (around u.scope) u.dims)

abbrev pub parts : Use → List Expr
parts u = u.dims ++ flat_map (λ r. r.0 ∷ r.1 ∷ []) (option_to_list u.form.range) ++ option_to_list u.form.reset ++ option_to_list u.form.at ++ option_to_list u.form.stride ++ option_to_list u.form.align

-- each part's first V failure
abbrev pub bad_parts : Use → List Fault
bad_parts u = flat_map (λ e. failures (number_of (around u.scope) e)) (parts u)

-- E10: a dimension of 0, or more than eight; of a field or signal more than one bracket
abbrev pub most_dims : ℕ
most_dims = 8

abbrev pub is_zero : Outcome ℕ → Bool
is_zero (Ok n) = n == 0
is_zero (Err f) = false

abbrev pub has_zero : Use → Bool
has_zero u = list_any (λ e. is_zero (number_of (around u.scope) e)) u.dims

abbrev pub bad_array : Use → Kind → List Fault
bad_array u k = when (cond (is_unit k) (nat_lt 1 (length u.dims)) (nat_lt most_dims (length u.dims) || has_zero u)) (at_ rules.E10 u.name.place)

-- E11: the path text of the last element is longer than 900 bytes. Where a dimension has no number or is 0, there is none.
abbrev pub most_bytes : ℕ
most_bytes = 900

abbrev pub is_empty : {A : Type 0} → List A → Bool
is_empty [] = true
is_empty (x ∷ xs) = false

abbrev pub last_step : Use → List ℕ → Step
last_step u dims = record { name = u.name.text.now; index = map (λ d. d - 1) dims }

abbrev pub is_long : Parent → Use → Outcome (List ℕ) → Bool
is_long p u (Err f) = false
is_long p u (Ok dims) = cond (list_any (λ d. d == 0) dims) false (nat_lt most_bytes (length (joined (steps_in p (last_step u dims)))))

abbrev pub long_path : Parent → Use → Kind → List Fault
long_path p u k = when (is_long p u (dims_of u k)) (at_ rules.E11 u.name.place)

-- Arguments by their places, and the values of parameters.
use Rattle.std.proofs.Common.{◌≡◌, ◌∙◌, ℕ, suc, ◌+◌, ◌-◌, Bool, Result, Ok, Err, true, false, cond, bytes_eq, List, [], ◌∷◌, slice_get, Option, None, Some, option_map, refl, sym, ap, subst, arith}
use Rattle.std.specs.List.{position_from}
use Rattle.std.specs.Result.{result_ok}
use Rattle.rdl_base.specs.declared.fault.Fault.{Fault}
use Rattle.rdl_base.specs.declared.rule.Rule.TheVariants as rules
use Rattle.rdl_tree.specs.declared.expr.Expr.{Expr}
use Rattle.rdl_tree.specs.declared.expr.Name.{Name}
use Rattle.rdl_tree.specs.declared.item.Arg.{Arg}
use Rattle.rdl_tree.specs.declared.item.Param.{Param}
use Rattle.rdl_tree.specs.declared.value.Value.{Value}
use Rattle.rdl_values.specs.Bodies.{Scope, around}
use Rattle.rdl_values.specs.Faults.{at_, failures, when}
use Rattle.rdl_values.specs.Firsts.{place_of}
use Rattle.rdl_values.specs.Parameters.{Bound, argument, given, is_bad_argument, is_bound, value_at}
use Rattle.rdl_values.specs.Uses.{Use}
use Rattle.rdl_values.specs.Values.{Outcome, fails}
use Rattle.rdl_failures.specs.Noted.{IsNoted, with_all}
use Rattle.rdl_uses.specs.Arguments.{AreArguments}
use Rattle.rdl_uses.specs.Bound.{names_of_args}
use Rattle.rdl_uses.specs.declared.arguments.Arguments.{Arguments}
use Rattle.plain_lemmas.proofs.Lists.{position_from-least as above}

-- the value at a place
abbrev pub found_at : List Arg → Option ℕ → Option Expr
found_at args None = None
found_at args (Some k) = option_map (λ a. a.value) (slice_get args k)

-- the value at a place, counted from this one
abbrev pub value_from : ℕ → List Arg → Option ℕ → Option Expr
value_from i args None = None
value_from i args (Some k) = option_map (λ a. a.value) (slice_get args (k - i))

pub argument-at : (n : Name) (i : ℕ) (args : List Arg) → argument args n ≡ value_from i args (position_from (λ m. bytes_eq m n.text.now) i (names_of_args args))
argument-at n i [] = refl
argument-at n i (a ∷ args) = go (bytes_eq a.name.text.now n.text.now) (argument-at n (i + 1) args)
  where
    places : Option ℕ
    places = position_from (λ m. bytes_eq m n.text.now) (i + 1) (names_of_args args)

    behind : (o : Option ℕ) → places ≡ o → value_from (i + 1) args o ≡ value_from i (a ∷ args) o
    behind None e = refl
    behind (Some k) e =
        let l = above (λ m. bytes_eq m n.text.now) (i + 1) (names_of_args args) k e in
        let next : k - i ≡ suc (k - (i + 1)) = omega (arith, l) in
        ap (λ j. option_map (λ a. a.value) (slice_get (a ∷ args) j)) (sym next)

    go : (b : Bool) → argument args n ≡ value_from (i + 1) args places → cond b (Some a.value) (argument args n) ≡ value_from i (a ∷ args) (cond b (Some i) places)
    go true ih = let here : i - i ≡ 0 = omega arith in ap (λ j. option_map (λ a. a.value) (slice_get (a ∷ args) j)) (sym here)
    go false ih = ih ∙ behind places refl

-- the value of an argument's name, by the place that a table has
pub argument-by : (n : Name) (ps : List Param) (args : List Arg) (a : Arguments) (o : Option ℕ) → AreArguments a ps args → o ≡ place_of a.places n.text.now → found_at a.list.now o ≡ argument args n
argument-by n ps args a o h e =
    ap (λ xs. found_at xs o) h.list ∙ ap (found_at args) (e ∙ h.places.at n.text.now) ∙ first (position_from (λ m. bytes_eq m n.text.now) 0 (names_of_args args)) ∙ sym (argument-at n 0 args)
  where
    first : (o : Option ℕ) → found_at args o ≡ value_from 0 args o
    first None = refl
    first (Some k) = let same : k - 0 ≡ k = omega arith in ap (λ j. option_map (λ a. a.value) (slice_get args j)) (sym same)

-- E6 of one argument

abbrev pub bad_arg : List Param → List Arg × Arg → List Fault
bad_arg ps a = when (is_bad_argument ps a.0 a.1) (at_ rules.E6 a.1.name.place)

-- The value of the parameter behind others.

pub value-free : (u : Use) (scope : Scope) (bound : Bound) (p : Param) (o : Option Expr) → is_bound p.name bound ≡ false → o ≡ argument u.args p.name
    → given (around u.scope) (record { bound = bound; enums = [] } ∷ around scope) u.type_place p o p.default ≡ value_at u scope bound p
value-free u scope bound p o e a =
    ap (λ o. given (around u.scope) (record { bound = bound; enums = [] } ∷ around scope) u.type_place p o p.default) a
    ∙ sym (ap (λ b. cond b (fails rules.E6 p.name.place) (given (around u.scope) (record { bound = bound; enums = [] } ∷ around scope) u.type_place p (argument u.args p.name) p.default)) e)

pub all_noted : (o : Outcome Bound) (bound : Bound) (s t : List Fault) → o ≡ Ok bound → t ≡ s → IsNoted (failures o) true s t
all_noted o bound s t e q = subst (λ r. IsNoted (failures r) true s t) (sym e) (record { none = refl; put = q })

pub none_put : (o : Result Value Fault) (v : Value) (s t : List Fault) → Some v ≡ result_ok o → t ≡ with_all (failures o) s → t ≡ s
none_put (Ok w) v s t e put = put
none_put (Err f) v s t e put = cc

-- The numbers of expressions, one after the other.
use Rattle.std.proofs.Common.{◌≡◌, ◌∙◌, ℕ, ◌+◌, ◌<◌, length, get_or, take, flat_map, append-nil, subst, Bool, true, false, ◌&&◌, ◌||◌, List, [], ◌∷◌, ◌++◌, option_to_list, Ok, Err, IsErr, refl, sym, ap}
use Rattle.std.specs.List.{list_any}
use Rattle.std.specs.Result.{is_ok, result_ok}
use Rattle.std.proofs.lemmas.List.Folds.{list_any-append}
use Rattle.rdl_base.specs.declared.fault.Fault.{Fault}
use Rattle.rdl_tree.specs.declared.expr.Expr.{Expr}
use Rattle.std.proofs.lemmas.List.{take_more}
use Rattle.plain_lemmas.proofs.Bools.{and-left as and_first, and-right as and_second}
use Rattle.rdl_values.specs.Faults.{failures}
use Rattle.rdl_values.specs.Parts.{is_empty, is_zero}
use Rattle.rdl_failures.specs.Noted.{IsNoted, with_all}
use Rattle.rdl_failures.proofs.Noting.{each_noted, value_noted}
use Rattle.rdl_values.specs.Uses.{values}
use Rattle.rdl_values.specs.Values.{Around, Outcome, number_of, then}
use Rattle.rdl_uses.specs.Parts.{AreDims, IsAdded, fails_of}
use Rattle.rdl_uses.specs.declared.dims.Dims.{Dims}

-- the numbers of some expressions and of one behind them
abbrev behind : Outcome (List ℕ) → Outcome ℕ → Outcome (List ℕ)
behind ns o = then ns λ ns. then o λ n. Ok (ns ++ (n ∷ []))

values-push : (env : Around) (xs : List Expr) (e : Expr) → values env (xs ++ (e ∷ [])) ≡ behind (values env xs) (number_of env e)
values-push env [] e = go (number_of env e)
  where
    go : (o : Outcome ℕ) → then o (λ n. Ok (n ∷ [])) ≡ behind (Ok []) o
    go (Ok n) = refl
    go (Err f) = refl
values-push env (x ∷ xs) e = ap (λ o. then (number_of env x) λ n. then o λ ns. Ok (n ∷ ns)) (values-push env xs e) ∙ go (number_of env x) (values env xs) (number_of env e)
  where
    go : (a : Outcome ℕ) (b : Outcome (List ℕ)) (o : Outcome ℕ) → (then a λ n. then (behind b o) λ ns. Ok (n ∷ ns)) ≡ behind (then a λ n. then b λ ns. Ok (n ∷ ns)) o
    go (Err f) b o = refl
    go (Ok n) (Err f) o = refl
    go (Ok n) (Ok ns) (Err f) = refl
    go (Ok n) (Ok ns) (Ok m) = refl

or-last : (a b : Bool) → (a || (b || false)) ≡ (a || b)
or-last true b = refl
or-last false true = refl
or-last false false = refl

both_ok : (b : Outcome (List ℕ)) (o : Outcome ℕ) → is_ok (behind b o) ≡ (is_ok b && is_ok o)
both_ok (Err f) o = refl
both_ok (Ok ns) (Err f) = refl
both_ok (Ok ns) (Ok n) = refl

pub dims_more : (env : Around) (xs : List Expr) (e : Expr) (d d' : Dims) → AreDims env xs d → IsAdded (number_of env e) d d' → AreDims env (xs ++ (e ∷ [])) d'
dims_more env xs e d d' h a = record {
  clean = a.clean ∙ ap (λ c. c && is_ok (number_of env e)) h.clean ∙ sym (both_ok (values env xs) (number_of env e)) ∙ ap is_ok (sym (values-push env xs e));
  numbers = λ c. let t = sym a.clean ∙ c in
      values-push env xs e ∙ ap (λ o. behind o (number_of env e)) (h.numbers (and_first d.clean _ t)) ∙ last (number_of env e) (and_second d.clean _ t) ∙ ap Ok (sym a.items);
  zero = a.zero ∙ ap (λ z. z || is_zero (number_of env e)) h.zero ∙ sym (list_any-append (λ e. is_zero (number_of env e)) xs (e ∷ []) ∙ or-last (list_any (λ e. is_zero (number_of env e)) xs) (is_zero (number_of env e)));
}
  where
    last : (o : Outcome ℕ) → is_ok o ≡ true → behind (Ok d.numbers.items) o ≡ Ok (d.numbers.items ++ option_to_list (result_ok o))
    last (Ok n) e = refl
    last (Err f) e = cc

pub not_ok : {A : Type 0} (o : Outcome A) → false ≡ is_ok o → IsErr o
not_ok (Ok x) e = cc
not_ok (Err f) e = refl

-- The same by their places in the list.

pub dims_step : (env : Around) (es : List Expr) (i : ℕ) (e : Expr) → i < length es → e ≡ get_or es i e → (d d' : Dims) (o : Outcome ℕ) → o ≡ number_of env e → IsAdded o d d' → AreDims env (take i es) d → AreDims env (take (i + 1) es) d'
dims_step env es i e l at d d' o is a h =
    let last : take (i + 1) es ≡ take i es ++ (e ∷ []) = take_more es i e l ∙ ap (λ x. take i es ++ (x ∷ [])) (sym at) in
    subst (λ xs. AreDims env xs d') (sym last) (dims_more env (take i es) e d d' h (subst (λ o. IsAdded o d d') is a))

one_noted : (env : Around) (e : Expr) (o : Outcome ℕ) (s t : List Fault) → o ≡ number_of env e → t ≡ with_all (failures o) s → IsNoted (flat_map (fails_of env) (e ∷ [])) (is_ok o) s t
one_noted env e o s t is put =
    let h = value_noted (number_of env e) s t (put ∙ ap (λ o. with_all (failures o) s) is) in
    let same : failures (number_of env e) ++ [] ≡ failures (number_of env e) = append-nil (failures (number_of env e)) in
    record { none = ap is_ok is ∙ h.none ∙ ap is_empty (sym same); put = h.put ∙ ap (λ fs. with_all fs s) (sym same) }

pub noted_step : (env : Around) (es : List Expr) (i : ℕ) (e : Expr) → i < length es → e ≡ get_or es i e → (d d' : Dims) (o : Outcome ℕ) → o ≡ number_of env e → IsAdded o d d'
    → (s t u : List Fault) → IsNoted (flat_map (fails_of env) (take i es)) d.clean s t → u ≡ with_all (failures o) t → IsNoted (flat_map (fails_of env) (take (i + 1) es)) d'.clean s u
noted_step env es i e l at d d' o is a s t u h put =
    let last : take (i + 1) es ≡ take i es ++ (e ∷ []) = take_more es i e l ∙ ap (λ x. take i es ++ (x ∷ [])) (sym at) in
    let both = each_noted (fails_of env) (take i es) (e ∷ []) d.clean (is_ok o) s t u h (one_noted env e o t u is put) in
    let named = subst (λ b. IsNoted (flat_map (fails_of env) (take i es ++ (e ∷ []))) b s u) (sym a.clean) both in
    subst (λ xs. IsNoted (flat_map (fails_of env) xs) d'.clean s u) (sym last) named

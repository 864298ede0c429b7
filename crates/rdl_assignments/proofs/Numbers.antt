-- The first failure of some numbers.
use Rattle.std.proofs.Common.{◌≡◌, ◌∙◌, ℕ, ◌+◌, ◌<◌, ◌≤◌, List, [], ◌∷◌, ◌++◌, length, take, drop, get_or, flat_map, append-nil, Option, None, Some, Ok, Err, refl, sym, ap}
use Rattle.std.specs.Option.{option_or}
use Rattle.std.specs.Result.{result_err}
use Rattle.std.proofs.lemmas.Grind.{flat_map-append}
use Rattle.std.proofs.lemmas.List.{take_all, take_more, take-append-drop}
use Rattle.rdl_tree.specs.declared.expr.Expr.{Expr}
use Rattle.rdl_tree.specs.declared.expr.Step.{Step}
use Rattle.rdl_base.specs.declared.fault.Fault.{Fault}
use Rattle.rdl_values.specs.Uses.{values}
use Rattle.rdl_values.specs.Values.{Around, Outcome, number_of, then}

-- those of two lists
pub failure-append : (around : Around) (xs ys : List Expr) → result_err (values around (xs ++ ys)) ≡ option_or (result_err (values around xs)) (result_err (values around ys))
failure-append around [] ys = refl
failure-append around (x ∷ xs) ys = go (number_of around x) (values around (xs ++ ys)) (values around xs) (failure-append around xs ys)
  where
    go : (o : Outcome ℕ) (all some : Outcome (List ℕ)) → result_err all ≡ option_or (result_err some) (result_err (values around ys))
        → result_err (then o λ n. then all λ ns. Ok (n ∷ ns)) ≡ option_or (result_err (then o λ n. then some λ ns. Ok (n ∷ ns))) (result_err (values around ys))
    go (Err f) all some h = refl
    go (Ok n) (Ok ns) (Ok ms) h = h
    go (Ok n) (Ok ns) (Err f) h = h
    go (Ok n) (Err e) (Ok ms) h = h
    go (Ok n) (Err e) (Err f) h = h

or-none : {A : Type 0} (o : Option A) → option_or o None ≡ o
or-none None = refl
or-none (Some x) = refl

first : (around : Around) (x : Expr) (xs : List Expr) (f : Fault) → number_of around x ≡ Err f → result_err (values around (x ∷ xs)) ≡ Some f
first around x xs f e = ap (λ o. result_err (then o λ n. then (values around xs) λ ns. Ok (n ∷ ns))) e

alone : (around : Around) (x : Expr) (n : ℕ) → number_of around x ≡ Ok n → result_err (values around (x ∷ [])) ≡ None
alone around x n e = ap (λ o. result_err (then o λ n. then (values around []) λ ns. Ok (n ∷ ns))) e

-- One number by its place.

pub number_fails : (around : Around) (xs : List Expr) (i : ℕ) (d : Expr) (f : Fault) → i < length xs → result_err (values around (take i xs)) ≡ None → Err f ≡ number_of around (get_or xs i d) → Some f ≡ result_err (values around xs)
number_fails around xs i d f l before e =
    let split : xs ≡ take (i + 1) xs ++ drop (i + 1) xs = sym (take-append-drop (i + 1) xs) in
    let of_one : result_err (values around (take (i + 1) xs)) ≡ Some f = ap (λ ys. result_err (values around ys)) (take_more xs i d l) ∙ failure-append around (take i xs) (get_or xs i d ∷ []) ∙ ap (λ o. option_or o (result_err (values around (get_or xs i d ∷ [])))) before ∙ first around (get_or xs i d) [] f (sym e) in
    sym (ap (λ ys. result_err (values around ys)) split ∙ failure-append around (take (i + 1) xs) (drop (i + 1) xs) ∙ ap (λ o. option_or o (result_err (values around (drop (i + 1) xs)))) of_one)

pub number_passes : (around : Around) (xs : List Expr) (i : ℕ) (d : Expr) (n : ℕ) → i < length xs → result_err (values around (take i xs)) ≡ None → Ok n ≡ number_of around (get_or xs i d) → result_err (values around (take (i + 1) xs)) ≡ None
number_passes around xs i d n l before e =
    ap (λ ys. result_err (values around ys)) (take_more xs i d l) ∙ failure-append around (take i xs) (get_or xs i d ∷ []) ∙ ap (λ o. option_or o (result_err (values around (get_or xs i d ∷ [])))) before ∙ alone around (get_or xs i d) n (sym e)

pub numbers_pass : (around : Around) (xs : List Expr) (i : ℕ) → length xs ≤ i → result_err (values around (take i xs)) ≡ None → None ≡ result_err (values around xs)
numbers_pass around xs i l e = sym (ap (λ ys. result_err (values around ys)) (sym (take_all i xs l)) ∙ e)

-- The same of the indices of steps.

abbrev pub indices_in : List Step → List Expr
indices_in ts = flat_map (λ t. t.index.now) ts

indices-more : (ts : List Step) (i : ℕ) (d : Step) → i < length ts → indices_in (take (i + 1) ts) ≡ indices_in (take i ts) ++ (get_or ts i d).index.now
indices-more ts i d l = ap indices_in (take_more ts i d l) ∙ flat_map-append (λ (t : Step). t.index.now) (take i ts) (get_or ts i d ∷ []) ∙ ap (λ ys. indices_in (take i ts) ++ ys) (append-nil (get_or ts i d).index.now)

pub step_fails : (around : Around) (ts : List Step) (i : ℕ) (d : Step) (f : Fault) → i < length ts → result_err (values around (indices_in (take i ts))) ≡ None → Some f ≡ result_err (values around (get_or ts i d).index.now) → Some f ≡ result_err (values around (indices_in ts))
step_fails around ts i d f l before e =
    let split : indices_in ts ≡ indices_in (take (i + 1) ts) ++ indices_in (drop (i + 1) ts) = ap indices_in (sym (take-append-drop (i + 1) ts)) ∙ flat_map-append (λ (t : Step). t.index.now) (take (i + 1) ts) (drop (i + 1) ts) in
    let of_one : result_err (values around (indices_in (take (i + 1) ts))) ≡ Some f = ap (λ ys. result_err (values around ys)) (indices-more ts i d l) ∙ failure-append around (indices_in (take i ts)) (get_or ts i d).index.now ∙ ap (λ o. option_or o (result_err (values around (get_or ts i d).index.now))) before ∙ sym e in
    sym (ap (λ ys. result_err (values around ys)) split ∙ failure-append around (indices_in (take (i + 1) ts)) (indices_in (drop (i + 1) ts)) ∙ ap (λ o. option_or o (result_err (values around (indices_in (drop (i + 1) ts))))) of_one)

pub step_passes : (around : Around) (ts : List Step) (i : ℕ) (d : Step) → i < length ts → result_err (values around (indices_in (take i ts))) ≡ None → None ≡ result_err (values around (get_or ts i d).index.now) → result_err (values around (indices_in (take (i + 1) ts))) ≡ None
step_passes around ts i d l before e =
    ap (λ ys. result_err (values around ys)) (indices-more ts i d l) ∙ failure-append around (indices_in (take i ts)) (get_or ts i d).index.now ∙ ap (λ o. option_or o (result_err (values around (get_or ts i d).index.now))) before ∙ sym e

pub steps_pass : (around : Around) (ts : List Step) (i : ℕ) → length ts ≤ i → result_err (values around (indices_in (take i ts))) ≡ None → None ≡ result_err (values around (indices_in ts))
steps_pass around ts i l e = sym (ap (λ ys. result_err (values around (indices_in ys))) (sym (take_all i ts l)) ∙ e)

-- a path of which no index fails
pub then_passes : {B : Type 0} (o : Outcome (List ℕ)) (r : Outcome B) → None ≡ result_err o → r ≡ then o λ ns. r
then_passes (Ok ns) r e = refl
then_passes (Err f) r e = cc

pub then_stops : {B : Type 0} (o : Outcome (List ℕ)) (r : List ℕ → Outcome B) (f : Fault) → Some f ≡ result_err o → Err f ≡ then o r
then_stops (Ok ns) r f e = cc
then_stops (Err g) r f e = let same : f ≡ g = cc in ap Err same

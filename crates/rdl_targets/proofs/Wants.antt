-- The numbers of indices.
use Rattle.std.proofs.Common.{◌≡◌, ◌∙◌, ◌≢◌, ℕ, ◌+◌, ◌<◌, ◌≤◌, false, bytes_eq, List, [], ◌∷◌, ◌++◌, length, get_or, take, drop, append_assoc, None, Some, Ok, Err, refl, sym, ap}
use Rattle.std.specs.Result.{result_ok}
use Rattle.std.proofs.lemmas.List.{take-append-drop, take_all, take_more}
use Rattle.rdl_base.specs.declared.fault.Fault.{Fault}
use Rattle.rdl_tree.specs.declared.expr.Expr.{Expr}
use Rattle.rdl_values.specs.Uses.{values}
use Rattle.rdl_values.specs.Values.{Around, Outcome, number_of, then}
use Rattle.rdl_layers.specs.Assignments.{is_index, is_index_or_none}

-- behind those that have a number
after : (env : Around) (xs ys : List Expr) (ns : List ℕ) → values env xs ≡ Ok ns → values env (xs ++ ys) ≡ then (values env ys) λ ms. Ok (ns ++ ms)
after env [] ys ns e = same (values env ys) ns (let z : ns ≡ [] = cc in z)
  where
    same : (o : Outcome (List ℕ)) (ms : List ℕ) → ms ≡ [] → o ≡ then o λ ks. Ok (ms ++ ks)
    same (Ok ks) ms z = λ i. Ok (sym z i ++ ks)
    same (Err f) ms z = refl
after env (x ∷ xs) ys ns e = go (number_of env x) (values env xs) refl refl (λ ms. after env xs ys ms) e
  where
    both : (n : ℕ) (ms : List ℕ) (o : Outcome (List ℕ)) → (then (then o λ ks. Ok (ms ++ ks)) λ ns'. Ok (n ∷ ns')) ≡ then o λ ks. Ok (n ∷ (ms ++ ks))
    both n ms (Ok ks) = refl
    both n ms (Err f) = refl

    go : (o : Outcome ℕ) (v : Outcome (List ℕ)) → number_of env x ≡ o → values env xs ≡ v → ((ms : List ℕ) → values env xs ≡ Ok ms → values env (xs ++ ys) ≡ then (values env ys) λ ks. Ok (ms ++ ks)) → (then o λ n. then v λ ns'. Ok (n ∷ ns')) ≡ Ok ns → values env (x ∷ (xs ++ ys)) ≡ then (values env ys) λ ms. Ok (ns ++ ms)
    go (Ok n) (Ok ms) a b ih h =
        let is : n ∷ ms ≡ ns = cc in
        ap (λ q. then q λ k. then (values env (xs ++ ys)) λ ns'. Ok (k ∷ ns')) a ∙ ap (λ q. then q λ ns'. Ok (n ∷ ns')) (ih ms b) ∙ both n ms (values env ys) ∙ ap (λ zs. then (values env ys) λ ks. Ok (zs ++ ks)) is
    go (Ok n) (Err f) a b ih h = cc
    go (Err f) v a b ih h = cc

one : (env : Around) (x : Expr) (ys : List Expr) (f : Fault) → number_of env x ≡ Err f → values env (x ∷ ys) ≡ Err f
one env x ys f e = ap (λ o. then o λ n. then (values env ys) λ ns. Ok (n ∷ ns)) e

alone : (env : Around) (x : Expr) (n : ℕ) → number_of env x ≡ Ok n → values env (x ∷ []) ≡ Ok (n ∷ [])
alone env x n e = ap (λ o. then o λ k. then (values env []) λ ns. Ok (k ∷ ns)) e

-- One more by its place.

pub numbers_more : (env : Around) (xs : List Expr) (i : ℕ) (x : Expr) (ns ms : List ℕ) (n : ℕ) → i < length xs → x ≡ get_or xs i x → values env (take i xs) ≡ Ok ns → Ok n ≡ number_of env x → ms ≡ ns ++ (n ∷ []) → values env (take (i + 1) xs) ≡ Ok ms
numbers_more env xs i x ns ms n l at before e pushed =
    ap (values env) (take_more xs i x l ∙ ap (λ y. take i xs ++ (y ∷ [])) (sym at)) ∙ after env (take i xs) (x ∷ []) ns before ∙ ap (λ o. then o λ ks. Ok (ns ++ ks)) (alone env x n (sym e)) ∙ ap Ok (sym pushed)

pub numbers_fail : (env : Around) (xs : List Expr) (i : ℕ) (x : Expr) (ns : List ℕ) (f : Fault) → i < length xs → x ≡ get_or xs i x → values env (take i xs) ≡ Ok ns → Err f ≡ number_of env x → None ≡ result_ok (values env xs)
numbers_fail env xs i x ns f l at before e =
    let split : take i xs ++ (x ∷ drop (i + 1) xs) ≡ xs = sym (append_assoc (take i xs) (x ∷ []) (drop (i + 1) xs)) ∙ ap (λ zs. zs ++ drop (i + 1) xs) (sym (take_more xs i x l ∙ ap (λ y. take i xs ++ (y ∷ [])) (sym at))) ∙ take-append-drop (i + 1) xs in
    sym (ap (λ zs. result_ok (values env zs)) (sym split) ∙ ap result_ok (after env (take i xs) (x ∷ drop (i + 1) xs) ns before) ∙ ap (λ o. result_ok (then o λ ks. Ok (ns ++ ks))) (one env x (drop (i + 1) xs) f (sym e)))

pub numbers_all : (env : Around) (xs : List Expr) (i : ℕ) (ns : List ℕ) → length xs ≤ i → values env (take i xs) ≡ Ok ns → Some ns ≡ result_ok (values env xs)
numbers_all env xs i ns l e = sym (ap (λ zs. result_ok (values env zs)) (sym (take_all i xs l)) ∙ ap result_ok e)

-- Whether indices are those that are wanted.

given : (env : Around) (es : List Expr) (index : List ℕ) → es ≢ [] → is_index (values env es) index ≡ is_index_or_none env es index
given env [] index some = absurd (some refl)
given env (e ∷ es) index some = refl

is-none : (o : Outcome (List ℕ)) (index : List ℕ) → None ≡ result_ok o → false ≡ is_index o index
is-none (Ok ns) index e = cc
is-none (Err f) index e = refl

is-these : (o : Outcome (List ℕ)) (ns index : List ℕ) → Some ns ≡ result_ok o → bytes_eq ns index ≡ is_index o index
is-these (Ok ms) ns index e = let same : ns ≡ ms = cc in ap (λ ks. bytes_eq ks index) same
is-these (Err f) ns index e = cc

pub wants_none : (env : Around) (es : List Expr) (index : List ℕ) → es ≢ [] → None ≡ result_ok (values env es) → false ≡ is_index_or_none env es index
wants_none env es index some e = is-none (values env es) index e ∙ given env es index some

pub wants_these : (env : Around) (es : List Expr) (ns index : List ℕ) → es ≢ [] → Some ns ≡ result_ok (values env es) → bytes_eq ns index ≡ is_index_or_none env es index
wants_these env es ns index some e = is-these (values env es) ns index e ∙ given env es index some

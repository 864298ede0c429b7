-- Ranges and widths that a text gives.
use Rattle.std.proofs.Common.{◌≡◌, ◌∙◌, ℕ, ◌+◌, ◌<◌, List, [], ◌∷◌, ◌++◌, length, get_or, take, flat_map, append-nil, None, Some, Ok, Err, refl, sym, ap}
use Rattle.std.proofs.lemmas.Grind.{flat_map-append}
use Rattle.std.proofs.lemmas.List.{take_more}
use Rattle.rdl_tree.specs.declared.expr.Expr.{Expr}
use Rattle.rdl_values.specs.Bodies.{around}
use Rattle.rdl_values.specs.Instances.{Instance}
use Rattle.rdl_values.specs.Values.{Around, Outcome, number_of}
use Rattle.rdl_layers.specs.Phase4.{range_of}
use Rattle.rdl_layers.specs.Settings.{given}
use Rattle.rdl_merge.specs.Widths.{range_by}

pub range_given : (n : Instance) (r : Expr × Expr) → n.use_.form.range ≡ Some r → range_by (number_of (around n.use_.scope) r.0) (number_of (around n.use_.scope) r.1) ≡ range_of n
range_given n r e = go (number_of (around n.use_.scope) r.0) (number_of (around n.use_.scope) r.1) refl refl
  where
    go : (o p : Outcome ℕ) → number_of (around n.use_.scope) r.0 ≡ o → number_of (around n.use_.scope) r.1 ≡ p → range_by (number_of (around n.use_.scope) r.0) (number_of (around n.use_.scope) r.1) ≡ range_of n
    go (Ok high) (Ok low) f g = rw (e, f, g) refl
    go (Ok high) (Err y) f g = rw (e, f, g) refl
    go (Err x) (Ok low) f g = rw (e, f, g) refl
    go (Err x) (Err y) f g = rw (e, f, g) refl

pub range_none : (n : Instance) → n.use_.form.range ≡ None → [] ≡ range_of n
range_none n e = rw e refl

-- numbers one by one

pub numbers_more : (env : Around) (xs : List Expr) (i : ℕ) (x : Expr) (old new : List ℕ) (o : Outcome ℕ) → i < length xs → x ≡ get_or xs i x → old ≡ flat_map (λ e. given (number_of env e)) (take i xs) → o ≡ number_of env x → new ≡ old ++ given o
    → new ≡ flat_map (λ e. given (number_of env e)) (take (i + 1) xs)
numbers_more env xs i x old new o l at before is put =
    let f = λ (e : Expr). given (number_of env e) in
    let one : take (i + 1) xs ≡ take i xs ++ (x ∷ []) = take_more xs i x l ∙ ap (λ y. take i xs ++ (y ∷ [])) (sym at) in
    put ∙ ap (λ ys. ys ++ given o) before ∙ ap (λ p. flat_map f (take i xs) ++ given p) is ∙ sym (ap (flat_map f) one ∙ flat_map-append f (take i xs) (x ∷ []) ∙ ap (λ ys. flat_map f (take i xs) ++ ys) (append-nil (f x)))

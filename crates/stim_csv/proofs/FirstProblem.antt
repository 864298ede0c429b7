-- The first problem of a list, as a loop comes to it.
use Rattle.std.proofs.Common.{◌≡◌, ℕ, suc, ◌+◌, ◌<◌, ◌≤◌, Option, Some, None, List, [], ◌∷◌, length, get_or, drop, refl, ap, ◌∙◌, add-one}
use Rattle.std.specs.Option.{option_or}
use Rattle.std.proofs.Math.Seq.{drop-cons}
use Rattle.std.proofs.lemmas.List.{drop_all}
use Rattle.stim_csv.specs.PinTable.{first_problem}
use Rattle.stim_csv.specs.declared.error.StimError.{StimError}

pub first_cons : {A : Type 0} (f : ℕ → A → Option StimError) (k : ℕ) (x : A) (xs : List A) → first_problem f k (x ∷ xs) ≡ option_or (f k x) (first_problem f (k + 1) xs)
unfolding first_problem
first_cons f k x xs = refl

pub none_past : {A : Type 0} (f : ℕ → A → Option StimError) (k : ℕ) → first_problem f k [] ≡ None
unfolding first_problem
none_past f k = refl

pub none_first : {A : Type 0} (f : ℕ → A → Option StimError) (k : ℕ) (x : A) (xs : List A) → f k x ≡ None → first_problem f k (x ∷ xs) ≡ first_problem f (k + 1) xs
none_first f k x xs h = first_cons f k x xs ∙ ap (λ o. option_or o (first_problem f (k + 1) xs)) h

pub some_first : {A : Type 0} (f : ℕ → A → Option StimError) (k : ℕ) (x : A) (xs : List A) (e : StimError) → f k x ≡ Some e → first_problem f k (x ∷ xs) ≡ Some e
some_first f k x xs e h = first_cons f k x xs ∙ ap (λ o. option_or o (first_problem f (k + 1) xs)) h

-- an element without a problem is passed
pub problem_after : {A : Type 0} (f : ℕ → A → Option StimError) (xs : List A) (i : ℕ) (d : A) → i < length xs → f i (get_or xs i d) ≡ None
    → first_problem f i (drop i xs) ≡ first_problem f (i + 1) (drop (i + 1) xs)
problem_after f xs i d l h = rw (drop-cons xs i d l, add-one i) (none_first f i (get_or xs i d) (drop (suc i) xs) h ∙ rw (add-one i) refl)

-- an element with a problem has the first
pub problem_here : {A : Type 0} (f : ℕ → A → Option StimError) (xs : List A) (i : ℕ) (d : A) (e : StimError) → i < length xs → f i (get_or xs i d) ≡ Some e
    → first_problem f i (drop i xs) ≡ Some e
problem_here f xs i d e l h = rw (drop-cons xs i d l) (some_first f i (get_or xs i d) (drop (suc i) xs) e h)

-- no problem is left at the end
pub problem_past : {A : Type 0} (f : ℕ → A → Option StimError) (xs : List A) (i : ℕ) → length xs ≤ i → first_problem f i (drop i xs) ≡ None
problem_past f xs i l = ap (first_problem f i) (drop_all i xs l) ∙ none_past f i

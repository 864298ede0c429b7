-- A text before and after its first ', and the runs and lists that tests find.
use Rattle.std.specs.List.{list_all, list_any, find, take_while, before_first, after_first, position_or_len}
use Rattle.std.proofs.Common.{◌≡◌, ℕ, ◌+◌, Bool, true, false, ◌||◌, cond, Some, None, List, [], ◌∷◌, ◌++◌, suc, refl, ap, ◌∙◌, subst, arith}
use Rattle.std.proofs.lemmas.Bool.{and_parts}
use Rattle.std.proofs.lemmas.Bool.Decides.{nat_tests}
use Rattle.std.proofs.lemmas.List.Sums.{take_while-cons}
use Rattle.plain_lemmas.proofs.Numbers.{one-plus as one_more, plus-one as more_one}
use Rattle.rdl_lexer.specs.Numbers.{is_quote, is_in_decimal}

pub before_cons : (x : ℕ) (xs : List ℕ) → is_quote x ≡ false → before_first is_quote (x ∷ xs) ≡ x ∷ before_first is_quote xs
before_cons x xs e = rw (e, one_more (position_or_len is_quote xs)) refl

pub after_cons : (x : ℕ) (xs : List ℕ) → is_quote x ≡ false → after_first is_quote (x ∷ xs) ≡ after_first is_quote xs
after_cons x xs e = rw (e, one_more (position_or_len is_quote xs), more_one (suc (position_or_len is_quote xs)), more_one (position_or_len is_quote xs)) refl

pub before_here : (x : ℕ) (xs : List ℕ) → is_quote x ≡ true → before_first is_quote (x ∷ xs) ≡ []
before_here x xs e = rw e refl

pub after_here : (x : ℕ) (xs : List ℕ) → is_quote x ≡ true → after_first is_quote (x ∷ xs) ≡ xs
after_here x xs e = rw e refl

quote_is : (x : ℕ) → is_quote x ≡ true → x ≡ 39
quote_is x e = grind (arith, nat_tests)

-- a text with a ' is what stands before the first, the ', and what stands after it
pub split_quote : (xs : List ℕ) → list_any is_quote xs ≡ true → xs ≡ before_first is_quote xs ++ (39 ∷ after_first is_quote xs)
split_quote [] h = cc
split_quote (x ∷ xs) h = go (is_quote x) refl (split_quote xs)
  where
    go : (q : Bool) → is_quote x ≡ q → (list_any is_quote xs ≡ true → xs ≡ before_first is_quote xs ++ (39 ∷ after_first is_quote xs)) → x ∷ xs ≡ before_first is_quote (x ∷ xs) ++ (39 ∷ after_first is_quote (x ∷ xs))
    go true e ih = rw (before_here x xs e, after_here x xs e) (ap (λ z. z ∷ xs) (quote_is x e))
    go false e ih = rw (before_cons x xs e, after_cons x xs e) (ap (λ z. x ∷ z) (ih (rw e at h)))

digit_no_quote : (x : ℕ) → is_in_decimal x ≡ true → is_quote x ≡ false
digit_no_quote x h = go (is_quote x) refl
  where
    go : (q : Bool) → is_quote x ≡ q → q ≡ false
    go true e = let k = subst (λ z. is_in_decimal z ≡ true) (quote_is x e) h in cc
    go false e = refl

-- digits, then a '
pub before_digits : (ds rest : List ℕ) → list_all is_in_decimal ds ≡ true → before_first is_quote (ds ++ (39 ∷ rest)) ≡ ds
before_digits [] rest h = refl
before_digits (d ∷ ds) rest h =
    let p = and_parts (is_in_decimal d) (list_all is_in_decimal ds) h in
    before_cons d (ds ++ (39 ∷ rest)) (digit_no_quote d p.0) ∙ ap (λ z. d ∷ z) (before_digits ds rest p.1)

pub after_digits : (ds rest : List ℕ) → list_all is_in_decimal ds ≡ true → after_first is_quote (ds ++ (39 ∷ rest)) ≡ rest
after_digits [] rest h = refl
after_digits (d ∷ ds) rest h =
    let p = and_parts (is_in_decimal d) (list_all is_in_decimal ds) h in
    after_cons d (ds ++ (39 ∷ rest)) (digit_no_quote d p.0) ∙ after_digits ds rest p.1

pub has_quote : (ds rest : List ℕ) → list_any is_quote (ds ++ (39 ∷ rest)) ≡ true
has_quote [] rest = refl
has_quote (d ∷ ds) rest = rw (has_quote ds rest) (or_true (is_quote d))
  where
    or_true : (b : Bool) → (b || true) ≡ true
    or_true true = refl
    or_true false = refl

-- digits with a ' are no digits alone
pub not_all_digits : (ds rest : List ℕ) → list_all is_in_decimal (ds ++ (39 ∷ rest)) ≡ true → ⊥
not_all_digits [] rest h = cc
not_all_digits (d ∷ ds) rest h = not_all_digits ds rest (and_parts (is_in_decimal d) (list_all is_in_decimal (ds ++ (39 ∷ rest))) h).1

-- the run before a byte that ends it
pub run_before : (ds : List ℕ) (x : ℕ) (rest : List ℕ) → list_all is_in_decimal ds ≡ true → is_in_decimal x ≡ false → take_while is_in_decimal (ds ++ (x ∷ rest)) ≡ ds
run_before [] x rest h e = take_while-cons is_in_decimal x rest ∙ ap (λ b. cond b (x ∷ take_while is_in_decimal rest) []) e
run_before (d ∷ ds) x rest h e =
    let p = and_parts (is_in_decimal d) (list_all is_in_decimal ds) h in
    take_while-cons is_in_decimal d (ds ++ (x ∷ rest)) ∙ (ap (λ b. cond b (d ∷ take_while is_in_decimal (ds ++ (x ∷ rest))) []) p.0 ∙ ap (λ z. d ∷ z) (run_before ds x rest p.1 e))

-- what a search finds passes
pub find_passes : {X : Type 0} (p : X → Bool) (xs : List X) (x : X) → find p xs ≡ Some x → p x ≡ true
find_passes p [] x e = cc
find_passes p (y ∷ ys) x e = go (p y) refl e (find_passes p ys x)
  where
    go : (b : Bool) → p y ≡ b → cond b (Some y) (find p ys) ≡ Some x → (find p ys ≡ Some x → p x ≡ true) → p x ≡ true
    go true h f ih = let s : y ≡ x = cc in subst (λ z. p z ≡ true) s h
    go false h f ih = ih f

pub find_none : {X : Type 0} (p : X → Bool) (xs : List X) → list_any p xs ≡ false → find p xs ≡ None
find_none p [] e = refl
find_none p (y ∷ ys) e = go (p y) e (find_none p ys)
  where
    go : (b : Bool) → (b || list_any p ys) ≡ false → (list_any p ys ≡ false → find p ys ≡ None) → cond b (Some y) (find p ys) ≡ None
    go true f ih = cc
    go false f ih = ih f

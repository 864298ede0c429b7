-- Lists of the same elements, each once, are permutations.
use Rattle.std.proofs.Common.{◌≡◌, ◌≢◌, ◌⊎◌, inl, inr, List, [], ◌∷◌, ◌++◌, IsPermutation, refl, sym, ap, subst}
use Rattle.std.specs.List.{AllByRecursion}
use Rattle.std.proofs.lemmas.List.Sorted.{IsPermutation-cons, IsPermutation-middle, IsPermutation-refl, IsPermutation-sym, IsPermutation-trans}
use Rattle.rdl_nodes.proofs.Apart.{Across, Apart}
use Rattle.rdl_nodes.proofs.Members.{In, each-in, in-either, in-left, in-right}

-- no two elements are the same
abbrev pub Differ : {X : Type 0} → X → X → Type 0
Differ a b = a ≢ b

-- what holds of each element
pub each-of : {X : Type 0} (P : X → Type 0) (xs : List X) → ((x : X) → In xs x → P x) → AllByRecursion P xs
each-of P [] f = tt
each-of P (x ∷ xs) f = (f x (inl refl), each-of P xs (λ y h. f y (inr h)))

-- A list is split at an element.
pub record Split {X : Type 0} (xs : List X) (x : X) : Type 0 where
  pub front : List X
  pub back : List X
  pub is : xs ≡ front ++ (x ∷ back)

pub split : {X : Type 0} (xs : List X) (x : X) → In xs x → Split xs x
split [] x h = absurd h
split (y ∷ ys) x (inl e) = record { front = []; back = ys; is = ap (λ z. z ∷ ys) e }
split (y ∷ ys) x (inr h) = let s = split ys x h in record { front = y ∷ s.front; back = s.back; is = ap (λ zs. y ∷ zs) s.is }

-- the rest of a split list
around-it : {X : Type 0} (as' : List X) (x : X) (bs : List X) (y : X) → In (as' ++ bs) y → In (as' ++ (x ∷ bs)) y
around-it as' x bs y h = go (in-either as' bs y h)
  where
    go : In as' y ⊎ In bs y → In (as' ++ (x ∷ bs)) y
    go (inl i) = in-left as' (x ∷ bs) y i
    go (inr i) = in-right as' (x ∷ bs) y (inr i)

but-it : {X : Type 0} (as' : List X) (x : X) (bs : List X) (y : X) → x ≢ y → In (as' ++ (x ∷ bs)) y → In (as' ++ bs) y
but-it as' x bs y n h = go (in-either as' (x ∷ bs) y h)
  where
    go : In as' y ⊎ In (x ∷ bs) y → In (as' ++ bs) y
    go (inl i) = in-left as' bs y i
    go (inr (inl e)) = absurd (n e)
    go (inr (inr i)) = in-right as' bs y i

-- without an element, the rest differ from one another, and from it
apart-rest : {X : Type 0} (as' : List X) (x : X) (bs : List X) → Apart Differ (as' ++ (x ∷ bs)) → Apart Differ (as' ++ bs)
apart-rest [] x bs h = h.1
apart-rest (a ∷ as') x bs h = (each-of (Differ a) (as' ++ bs) (λ y i. each-in (Differ a) (as' ++ (x ∷ bs)) y h.0 (around-it as' x bs y i)), apart-rest as' x bs h.1)

not-in-rest : {X : Type 0} (as' : List X) (x : X) (bs : List X) → Apart Differ (as' ++ (x ∷ bs)) → In (as' ++ bs) x → ⊥
not-in-rest [] x bs h i = each-in (Differ x) bs x h.0 i refl
not-in-rest (a ∷ as') x bs h (inl e) = each-in (Differ a) (as' ++ (x ∷ bs)) x h.0 (in-right as' (x ∷ bs) x (inl refl)) e
not-in-rest (a ∷ as') x bs h (inr i) = not-in-rest as' x bs h.1 i

pub same-members : {X : Type 0} (xs ys : List X) → Apart Differ xs → Apart Differ ys → ((x : X) → In xs x → In ys x) → ((x : X) → In ys x → In xs x) → IsPermutation xs ys
same-members [] [] d e to back = IsPermutation-refl []
same-members [] (y ∷ ys) d e to back = absurd (back y (inl refl))
same-members {X} (x ∷ xs) ys d e to back =
    let s = split ys x (to x (inl refl)) in
    let rest = s.front ++ s.back in
    let apart = subst (Apart Differ) s.is e in
    let to' : (z : _) → In xs z → In rest z = λ z i. but-it s.front x s.back z (each-in (Differ x) xs z d.0 i) (subst (λ l. In l z) s.is (to z (inr i))) in
    let back' : (z : _) → In rest z → In xs z = λ z i. other s.front s.back z i (back z (subst (λ l. In l z) (sym s.is) (around-it s.front x s.back z i))) apart in
    let inner = same-members xs rest d.1 (apart-rest s.front x s.back apart) to' back' in
    IsPermutation-trans (x ∷ xs) (x ∷ rest) ys (IsPermutation-cons x xs rest inner)
    (subst (IsPermutation (x ∷ rest)) (sym s.is) (IsPermutation-sym (s.front ++ (x ∷ s.back)) (x ∷ rest) (IsPermutation-middle s.front x s.back)))
  where
    other : (front back : List X) (z : X) → In (front ++ back) z → (x ≡ z) ⊎ In xs z → Apart Differ (front ++ (x ∷ back)) → In xs z
    other front back z i (inl q) apart = absurd (not-in-rest front x back apart (subst (In (front ++ back)) (sym q) i))
    other front back z i (inr h) apart = h

-- Lists of lists.

-- those of different elements have no element in common
pub across-of : {X : Type 0} (xs ys : List X) → ((x y : X) → In xs x → In ys y → x ≢ y) → Across Differ xs ys
across-of xs ys f = each-of (λ x. AllByRecursion (Differ x) ys) xs (λ x h. each-of (Differ x) ys (λ y i. f x y h i))

pub apart-of : {X : Type 0} (R S : X → X → Type 0) (xs : List X) → ((x y : X) → In xs x → In xs y → R x y → S x y) → Apart R xs → Apart S xs
apart-of R S [] f h = tt
apart-of R S (x ∷ xs) f h = (each-of (S x) xs (λ y i. f x y (inl refl) (inr i) (each-in (R x) xs y h.0 i)), apart-of R S xs (λ y z i j. f y z (inr i) (inr j)) h.1)

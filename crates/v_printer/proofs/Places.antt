-- Places and names in lists.
use Rattle.std.specs.List.{AllByRecursion, IsDistinct, list_any, list_all}
use Rattle.std.specs.Str.{bytes_eq}
use Rattle.std.specs.Cmp.Lexicographic.{nat_list_eq_equiv}
use Rattle.std.proofs.Common.{zero, suc, ◌≡◌, ℕ, ◌+◌, Bool, true, false, ◌||◌, List, [], ◌∷◌, ◌++◌, map, slice_get, Some, None, refl, ap, ◌∙◌, subst, arith}
use Rattle.std.proofs.lemmas.Bool.{or_parts}
use Rattle.v_design.specs.Lexemes.{among}
use Rattle.v_design.specs.WellFormed.{distinct}
use Rattle.v_printer.specs.Module.{numbered}

pub flipped : (a b : List ℕ) → bytes_eq a b ≡ false → bytes_eq b a ≡ false
flipped a b h = nat_list_eq_equiv.symm b a ∙ h

-- what holds of each
module _ {X : Type 0} where
  pub all_append : (P : X → Type 0) (xs ys : List X) → AllByRecursion P xs → AllByRecursion P ys → AllByRecursion P (xs ++ ys)
  all_append P [] ys p q = q
  all_append P (x ∷ xs) ys p q = (p.0, all_append P xs ys p.1 q)

  pub all_one : (P Q : X → Type 0) (xs : List X) → ((x : X) → P x → Q x) → AllByRecursion P xs → AllByRecursion Q xs
  all_one P Q [] f h = tt
  all_one P Q (x ∷ xs) f h = (f x h.0, all_one P Q xs f h.1)

  pub all_of : (P : X → Type 0) (xs : List X) → ((i : ℕ) (x : X) → slice_get xs i ≡ Some x → P x) → AllByRecursion P xs
  all_of P [] f = tt
  all_of P (x ∷ xs) f = (f 0 x refl, all_of P xs (λ i y h. f (suc i) y h))

  pub all_at : (P : X → Type 0) (xs : List X) (i : ℕ) (x : X) → AllByRecursion P xs → slice_get xs i ≡ Some x → P x
  all_at P [] i x h g = absurd (let q : None ≡ Some x = g in cc)
  all_at P (y ∷ xs) zero x h g = let q : y ≡ x = cc in subst P q h.0
  all_at P (y ∷ xs) (suc i) x h g = all_at P xs i x h.1 g

  pub list_all_of : (p : X → Bool) (xs : List X) → AllByRecursion (λ x. p x ≡ true) xs → list_all p xs ≡ true
  list_all_of p [] h = refl
  list_all_of p (x ∷ xs) h = rw (h.0, list_all_of p xs h.1)

  pub any_at : (p : X → Bool) (xs : List X) (i : ℕ) (x : X) → slice_get xs i ≡ Some x → p x ≡ true → list_any p xs ≡ true
  any_at p [] i x g h = absurd (let q : None ≡ Some x = g in cc)
  any_at p (y ∷ xs) zero x g h = let q : y ≡ x = cc in ap (λ z. p z || list_any p xs) q ∙ rw h
  any_at p (y ∷ xs) (suc i) x g h = go (p y) (any_at p xs i x g h)
    where
      go : (b : Bool) → list_any p xs ≡ true → (b || list_any p xs) ≡ true
      go true h = refl
      go false h = h

  pub place_left : (xs ys : List X) (i : ℕ) (x : X) → slice_get xs i ≡ Some x → slice_get (xs ++ ys) i ≡ Some x
  place_left [] ys i x h = absurd (let q : None ≡ Some x = h in cc)
  place_left (y ∷ xs) ys zero x h = h
  place_left (y ∷ xs) ys (suc i) x h = place_left xs ys i x h

  pub place_right : (xs ys : List X) (i : ℕ) (x : X) → slice_get ys i ≡ Some x → (j : ℕ) × (slice_get (xs ++ ys) j ≡ Some x)
  place_right [] ys i x h = (i, h)
  place_right (y ∷ xs) ys i x h = let r = place_right xs ys i x h in (suc r.0, r.1)

pub all_map : {X Y : Type 0} (P : Y → Type 0) (f : X → Y) (xs : List X) → AllByRecursion (λ x. P (f x)) xs → AllByRecursion P (map f xs)
all_map P f [] h = tt
all_map P f (x ∷ xs) h = (h.0, all_map P f xs h.1)

-- what holds of all that numbered items give
module _ {X A : Type 0} (f : ℕ → X → List A) where
  numbered_from : (P : A → Type 0) (k : ℕ) (xs : List X) → ((i n : ℕ) (x : X) → n ≡ k + i → slice_get xs i ≡ Some x → AllByRecursion P (f n x)) → AllByRecursion P (numbered f k xs)
  numbered_from P k [] h = tt
  numbered_from P k (x ∷ xs) h = all_append P (f k x) (numbered f (k + 1) xs) (h 0 k x (omega arith) refl) (numbered_from P (k + 1) xs (λ i n y e g. h (suc i) n y (omega arith) g))

  pub numbered_all : (P : A → Type 0) (xs : List X) → ((i : ℕ) (x : X) → slice_get xs i ≡ Some x → AllByRecursion P (f i x)) → AllByRecursion P (numbered f 0 xs)
  numbered_all P xs h = numbered_from P 0 xs (λ i n x e g. let q : i ≡ n = omega arith in subst (λ m. AllByRecursion P (f m x)) q (h i x g))

  numbered_at : (k : ℕ) (xs : List X) (i n : ℕ) (x : X) (a : A) → n ≡ k + i → slice_get xs i ≡ Some x → f n x ≡ a ∷ [] → (j : ℕ) × (slice_get (numbered f k xs) j ≡ Some a)
  numbered_at k [] i n x a e g h = absurd (let q : None ≡ Some x = g in cc)
  numbered_at k (y ∷ xs) zero n x a e g h =
      let q : y ≡ x = cc in
      let z : k ≡ n = omega arith in
      (0, ap (λ m. slice_get (f m y ++ numbered f (k + 1) xs) 0) z ∙ (ap (λ m. slice_get (f n m ++ numbered f (k + 1) xs) 0) q ∙ ap (λ l. slice_get (l ++ numbered f (k + 1) xs) 0) h))
  numbered_at k (y ∷ xs) (suc i) n x a e g h = let r = numbered_at (k + 1) xs i n x a (omega arith) g h in place_right (f k y) (numbered f (k + 1) xs) r.0 a r.1

  pub numbered_has : (xs : List X) (i : ℕ) (x : X) (a : A) → slice_get xs i ≡ Some x → f i x ≡ a ∷ [] → (j : ℕ) × (slice_get (numbered f 0 xs) j ≡ Some a)
  numbered_has xs i x a g h = numbered_at 0 xs i i x a (omega arith) g h

-- names that differ
abbrev pub Apart : List (List ℕ) → List ℕ → Type 0
Apart ns a = AllByRecursion (λ n. bytes_eq a n ≡ false) ns

pub distinct_append : (xs ys : List (List ℕ)) → IsDistinct bytes_eq xs → IsDistinct bytes_eq ys → AllByRecursion (Apart ys) xs → IsDistinct bytes_eq (xs ++ ys)
unfolding IsDistinct
distinct_append [] ys p q h = q
distinct_append (x ∷ xs) ys p q h = (all_append (λ n. bytes_eq x n ≡ false) xs ys p.0 h.0, distinct_append xs ys p.1 q h.1)

lacking : (x : List ℕ) (ns : List (List ℕ)) → Apart ns x → among ns x ≡ false
lacking x [] h = refl
lacking x (n ∷ ns) h = rw (flipped x n h.0, lacking x ns h.1)

pub is_distinct : (xs : List (List ℕ)) → IsDistinct bytes_eq xs → distinct xs ≡ true
unfolding IsDistinct
is_distinct [] d = refl
is_distinct (x ∷ xs) d = rw (lacking x xs d.0, is_distinct xs d.1)

pub apart_of : (ns : List (List ℕ)) (a : List ℕ) → list_any (bytes_eq a) ns ≡ false → Apart ns a
apart_of [] a h = tt
apart_of (n ∷ ns) a h = let r = or_parts (bytes_eq a n) (list_any (bytes_eq a) ns) h in (r.0, apart_of ns a r.1)

-- the names of both lists differ, seen from the other
pub turned : (xs ys : List (List ℕ)) → AllByRecursion (Apart xs) ys → AllByRecursion (Apart ys) xs
turned [] ys h = tt
turned (x ∷ xs) ys h =
    (all_one (Apart (x ∷ xs)) (λ y. bytes_eq x y ≡ false) ys (λ y p. flipped y x p.0) h, turned xs ys (all_one (Apart (x ∷ xs)) (Apart xs) ys (λ y p. p.1) h))

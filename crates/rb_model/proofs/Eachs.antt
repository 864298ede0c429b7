-- What holds of each element of a list.
use Rattle.std.proofs.Common.{◌≡◌, ℕ, zero, suc, ◌+◌, ◌<◌, Bool, true, false, not, ◌&&◌, ◌||◌, if◌then◌else◌, Option, Some, None, List, [], ◌∷◌, ◌++◌, length, slice_get, map, filter, refl, ap, sym, ◌∙◌, subst, arith}
use Rattle.std.specs.Prelude.{Contains, IsTrue}
use Rattle.std.specs.List.{enumerate_from, flat_map, list_any}
use Rattle.std.specs.Option.{option_map_or}
use Rattle.std.proofs.lemmas.List.Elements.{Contains-append_left, Contains-append_right}
use Rattle.rb_model.specs.References.{Each}

pub Each-left : {X : Type 0} (P : X → Type 0) (xs ys : List X) → Each P (xs ++ ys) → Each P xs
Each-left P [] ys h = tt
Each-left P (x ∷ xs) ys h = (h.0, Each-left P xs ys h.1)

pub Each-right : {X : Type 0} (P : X → Type 0) (xs ys : List X) → Each P (xs ++ ys) → Each P ys
Each-right P [] ys h = h
Each-right P (x ∷ xs) ys h = Each-right P xs ys h.1

pub Each-append : {X : Type 0} (P : X → Type 0) (xs ys : List X) → Each P xs → Each P ys → Each P (xs ++ ys)
Each-append P [] ys h g = g
Each-append P (x ∷ xs) ys h g = (h.0, Each-append P xs ys h.1 g)

pub Each-weaker : {X : Type 0} (P Q : X → Type 0) → ((x : X) → P x → Q x) → (xs : List X) → Each P xs → Each Q xs
Each-weaker P Q f [] h = tt
Each-weaker P Q f (x ∷ xs) h = (f x h.0, Each-weaker P Q f xs h.1)

pub Each-both : {X : Type 0} (P Q R : X → Type 0) → ((x : X) → P x → Q x → R x) → (xs : List X) → Each P xs → Each Q xs → Each R xs
Each-both P Q R f [] h g = tt
Each-both P Q R f (x ∷ xs) h g = (f x h.0 g.0, Each-both P Q R f xs h.1 g.1)

pub Each-always : {X : Type 0} (P : X → Type 0) → ((x : X) → P x) → (xs : List X) → Each P xs
Each-always P f [] = tt
Each-always P f (x ∷ xs) = (f x, Each-always P f xs)

pub Each-flat_map : {X Y : Type 0} (P : Y → Type 0) (f : X → List Y) (xs : List X) → Each (λ x. Each P (f x)) xs → Each P (flat_map f xs)
Each-flat_map P f [] h = tt
Each-flat_map P f (x ∷ xs) h = Each-append P (f x) (flat_map f xs) h.0 (Each-flat_map P f xs h.1)

pub Each-map : {X Y : Type 0} (P : Y → Type 0) (f : X → Y) (xs : List X) → Each (λ x. P (f x)) xs → Each P (map f xs)
Each-map P f [] h = tt
Each-map P f (x ∷ xs) h = (h.0, Each-map P f xs h.1)

pub Each-if : {X : Type 0} (P : X → Type 0) (c : Bool) (xs : List X) → c ≡ true → Each P (if c then xs else []) → Each P xs
Each-if P true xs t h = h
Each-if P false xs t h = cc

-- the element at k
pub Each-at : {X : Type 0} (P : X → Type 0) (xs : List X) (k : ℕ) (x : X) → Each P xs → slice_get xs k ≡ Some x → P x
Each-at P [] k x h e = cc
Each-at P (y ∷ ys) zero x h e = let q : y ≡ x = ap (λ o. option_map_or (λ z. z) o y) e in rw (sym q) h.0
Each-at P (y ∷ ys) (suc k) x h e = Each-at P ys k x h.1 e

-- the element at k, with its number
pub Each-numbered : {X : Type 0} (P : ℕ × X → Type 0) (n : ℕ) (xs : List X) (k : ℕ) (x : X) → Each P (enumerate_from n xs) → slice_get xs k ≡ Some x → P (n + k, x)
Each-numbered P n [] k x h e = cc
Each-numbered P n (y ∷ ys) zero x h e = let q : y ≡ x = ap (λ o. option_map_or (λ z. z) o y) e in let z : n + 0 ≡ n = omega arith in rw (z, sym q) h.0
Each-numbered P n (y ∷ ys) (suc k) x h e = let q : P (n + 1 + k, x) = Each-numbered P (n + 1) ys k x h.1 e in let z : n + 1 + k ≡ n + suc k = omega arith in let R : ℕ → Type 0 = λ m. P (m, x) in subst R z q

pub Each-from_zero : {X : Type 0} (P : ℕ × X → Type 0) (xs : List X) (k : ℕ) (x : X) → Each P (enumerate_from 0 xs) → slice_get xs k ≡ Some x → P (k, x)
Each-from_zero P xs k x h e = let q : P (0 + k, x) = Each-numbered P 0 xs k x h e in let z : 0 + k ≡ k = omega arith in let R : ℕ → Type 0 = λ m. P (m, x) in subst R z q

-- what one element makes is among what all make
pub Each-parts : {X Y : Type 0} (f : X → List Y) (xs : List X) → Each (λ x. (y : Y) → Contains (f x) y → Contains (flat_map f xs) y) xs
Each-parts f [] = tt
Each-parts f (x ∷ xs) = (
  λ y c. Contains-append_left (f x) (flat_map f xs) y c,
  Each-weaker (λ z. (y : _) → Contains (f z) y → Contains (flat_map f xs) y) (λ z. (y : _) → Contains (f z) y → Contains (f x ++ flat_map f xs) y)
      (λ z h y c. Contains-append_right (f x) (flat_map f xs) y (h y c)) xs (Each-parts f xs),
)

neither : (p q : Bool) → IsTrue (not (p || q)) → IsTrue (not p) × IsTrue (not q)
neither true q h = cc
neither false q h = (refl, h)

-- a test that holds of no element
pub Each-none : {X : Type 0} (test : X → Bool) (xs : List X) → IsTrue (not (list_any test xs)) → Each (λ x. IsTrue (not (test x))) xs
Each-none test [] h = tt
Each-none test (x ∷ xs) h = let p : IsTrue (not (test x)) × IsTrue (not (list_any test xs)) = neither (test x) (list_any test xs) h in (p.0, Each-none test xs p.1)

-- each numbered element, from what holds of the element at each place
pub Each-enumerate_from : {X : Type 0} (P : ℕ × X → Type 0) (n : ℕ) (xs : List X) → ((k : ℕ) (x : X) → slice_get xs k ≡ Some x → P (n + k, x)) → Each P (enumerate_from n xs)
Each-enumerate_from P n [] h = tt
Each-enumerate_from {X} P n (x ∷ xs) h =
    let z : n + 0 ≡ n = omega arith in
    let R : ℕ → Type 0 = λ m. P (m, x) in
    (subst R z (h 0 x refl), Each-enumerate_from P (n + 1) xs (λ k y e. let q : n + suc k ≡ n + 1 + k = omega arith in let S : ℕ → Type 0 = λ m. P (m, y) in subst S q (h (suc k) y e)))

pub Each-numbered_all : {X : Type 0} (P : ℕ × X → Type 0) (xs : List X) → ((k : ℕ) (x : X) → slice_get xs k ≡ Some x → P (k, x)) → Each P (enumerate_from 0 xs)
Each-numbered_all {X} P xs h = Each-enumerate_from P 0 xs (λ k x e. let q : k ≡ 0 + k = omega arith in let S : ℕ → Type 0 = λ m. P (m, x) in subst S q (h k x e))

-- each element that passes a test
pub Each-passing : {X : Type 0} (P : X → Type 0) (test : X → Bool) (xs : List X) → ((k : ℕ) (x : X) → slice_get xs k ≡ Some x → test x ≡ true → P x) → Each P (filter test xs)
Each-passing P test [] h = tt
Each-passing {X} P test (x ∷ xs) h = passing (test x) (λ t. h 0 x refl t) (Each-passing P test xs (λ k y e t. h (suc k) y e t))
  where
    passing : (c : Bool) → (c ≡ true → P x) → Each P (filter test xs) → Each P (if c then x ∷ filter test xs else filter test xs)
    passing true f r = (f refl, r)
    passing false f r = r

-- what is made of the numbered element at k
pub Each-made_at : {X Y : Type 0} (P : Y → Type 0) (f : ℕ × X → List Y) (n : ℕ) (xs : List X) (k : ℕ) (x : X) → Each P (flat_map f (enumerate_from n xs)) → slice_get xs k ≡ Some x → Each P (f (n + k, x))
Each-made_at P f n [] k x h e = cc
Each-made_at {X} {Y} P f n (y ∷ ys) zero x h e =
    let q : y ≡ x = ap (λ o. option_map_or (λ z. z) o y) e in
    let z : n + 0 ≡ n = omega arith in
    rw (z, sym q) (Each-left P (f (n, y)) (flat_map f (enumerate_from (n + 1) ys)) h)
Each-made_at {X} {Y} P f n (y ∷ ys) (suc k) x h e =
    let r : Each P (f (n + 1 + k, x)) = Each-made_at P f (n + 1) ys k x (Each-right P (f (n, y)) (flat_map f (enumerate_from (n + 1) ys)) h) e in
    let z : n + 1 + k ≡ n + suc k = omega arith in
    let R : ℕ → Type 0 = λ m. Each P (f (m, x)) in subst R z r

pub Each-made : {X Y : Type 0} (P : Y → Type 0) (f : ℕ × X → List Y) (xs : List X) (k : ℕ) (x : X) → Each P (flat_map f (enumerate_from 0 xs)) → slice_get xs k ≡ Some x → Each P (f (k, x))
Each-made {X} {Y} P f xs k x h e = let z : 0 + k ≡ k = omega arith in let R : ℕ → Type 0 = λ m. Each P (f (m, x)) in subst R z (Each-made_at P f 0 xs k x h e)

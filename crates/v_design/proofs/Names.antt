-- Tests, names and what holds of each thing of a list.
use Rattle.std.specs.List.{AllByRecursion}
use Rattle.std.specs.Str.{bytes_eq}
use Rattle.std.proofs.Common.{◌≡◌, Bool, true, false, not, ◌&&◌, ◌||◌, if◌then◌else◌, List, [], ◌∷◌, ◌++◌, ℕ, map, filter, refl, ap, subst, inl, inr}
use Rattle.std.proofs.lemmas.Bool.{false≢true, or_cases}
use Rattle.v_design.specs.Lexemes.{among}
use Rattle.v_design.specs.WellFormed.{distinct}
use Rattle.v_design.proofs.Tests.{and-left, and-right, same-refl, same-true}

pub or-left : (a b : Bool) → a ≡ true → (a || b) ≡ true
or-left true b h = refl
or-left false b h = cc

pub or-right : (a b : Bool) → b ≡ true → (a || b) ≡ true
or-right true b h = refl
or-right false b h = h

pub both : (a b : Bool) → a ≡ true → b ≡ true → (a && b) ≡ true
both a b p q = rw (p, q)

pub or-false : (a b : Bool) → a ≡ false → b ≡ false → (a || b) ≡ false
or-false a b p q = rw (p, q)

pub or-false-left : (a b : Bool) → (a || b) ≡ false → a ≡ false
or-false-left true b h = h
or-false-left false b h = refl

pub or-false-right : (a b : Bool) → (a || b) ≡ false → b ≡ false
or-false-right true b h = cc
or-false-right false b h = h

pub not-flip : (b : Bool) → not b ≡ true → b ≡ false
not-flip true h = cc
not-flip false h = refl

pub not-true-false : (b : Bool) → (b ≡ true → ⊥) → b ≡ false
not-true-false true h = absurd (h refl)
not-true-false false h = refl

pub apart-absurd : (b : Bool) → b ≡ true → b ≡ false → ⊥
apart-absurd true p q = cc
apart-absurd false p q = cc

-- a name among others is none that is not among them
pub apart : (ns : List (List ℕ)) (a n : List ℕ) → among ns a ≡ false → among ns n ≡ true → bytes_eq a n ≡ false
apart ns a n p q = not-true-false (bytes_eq a n) (λ e. let f : among ns a ≡ among ns n = ap (λ x. among ns x) (same-true a n e) in cc)

-- what holds of each
pub each_one : {X : Type 0} (P Q : X → Type 0) (xs : List X) → ((x : X) → P x → Q x) → AllByRecursion P xs → AllByRecursion Q xs
each_one P Q [] f h = tt
each_one P Q (x ∷ xs) f h = (f x h.0, each_one P Q xs f h.1)

pub each_two : {X : Type 0} (P Q R : X → Type 0) (xs : List X) → ((x : X) → P x → Q x → R x) → AllByRecursion P xs → AllByRecursion Q xs → AllByRecursion R xs
each_two P Q R [] f h k = tt
each_two P Q R (x ∷ xs) f h k = (f x h.0 k.0, each_two P Q R xs f h.1 k.1)

pub each_three : {X : Type 0} (P Q R S : X → Type 0) (xs : List X) → ((x : X) → P x → Q x → R x → S x) → AllByRecursion P xs → AllByRecursion Q xs → AllByRecursion R xs → AllByRecursion S xs
each_three P Q R S xs f p q r = each_two R (λ x. R x → S x) S xs (λ x y g. g y) r (each_two P Q (λ x. R x → S x) xs (λ x a b c. f x a b c) p q)

pub each_left : {X : Type 0} (P : X → Type 0) (xs ys : List X) → AllByRecursion P (xs ++ ys) → AllByRecursion P xs
each_left P [] ys h = tt
each_left P (x ∷ xs) ys h = (h.0, each_left P xs ys h.1)

pub each_right : {X : Type 0} (P : X → Type 0) (xs ys : List X) → AllByRecursion P (xs ++ ys) → AllByRecursion P ys
each_right P [] ys h = h
each_right P (x ∷ xs) ys h = each_right P xs ys h.1

pub each_append : {X : Type 0} (P : X → Type 0) (xs ys : List X) → AllByRecursion P xs → AllByRecursion P ys → AllByRecursion P (xs ++ ys)
each_append P [] ys p q = q
each_append P (x ∷ xs) ys p q = (p.0, each_append P xs ys p.1 q)

-- the names that things have
module _ {X : Type 0} (name : X → List ℕ) where
  -- what holds of the name of each holds of a name among these
  pub at_name : (P : List ℕ → Type 0) (xs : List X) → AllByRecursion (λ x. P (name x)) xs → (n : List ℕ) → among (map name xs) n ≡ true → P n
  at_name P [] h n a = absurd (false≢true a)
  at_name P (x ∷ xs) h n a = elim (or_cases (bytes_eq (name x) n) (among (map name xs) n) a) [
    | inl here ↦ subst P (same-true (name x) n here) h.0
    | inr there ↦ at_name P xs h.1 n there
  ]

  -- each is among the names
  pub among_names : (xs : List X) → AllByRecursion (λ x. among (map name xs) (name x) ≡ true) xs
  among_names [] = tt
  among_names (x ∷ xs) = (
    or-left (bytes_eq (name x) (name x)) (among (map name xs) (name x)) (same-refl (name x)),
    each_one (λ y. among (map name xs) (name y) ≡ true) (λ y. among (map name (x ∷ xs)) (name y) ≡ true) xs
        (λ y h. or-right (bytes_eq (name x) (name y)) (among (map name xs) (name y)) h) (among_names xs),
  )

  -- what is kept of a list has names of the list
  pub filter_among : (keep : X → Bool) (xs : List X) (n : List ℕ) → among (map name (filter keep xs)) n ≡ true → among (map name xs) n ≡ true
  filter_among keep [] n h = h
  filter_among keep (x ∷ xs) n h = go (keep x) (filter keep xs) (filter_among keep xs n) h
    where
      go : (b : Bool) (ys : List X) → (among (map name ys) n ≡ true → among (map name xs) n ≡ true) → among (map name (if b then x ∷ ys else ys)) n ≡ true → among (map name (x ∷ xs)) n ≡ true
      go true ys ih h = elim (or_cases (bytes_eq (name x) n) (among (map name ys) n) h) [
        | inl here ↦ or-left (bytes_eq (name x) n) (among (map name xs) n) here
        | inr there ↦ or-right (bytes_eq (name x) n) (among (map name xs) n) (ih there)
      ]
      go false ys ih h = or-right (bytes_eq (name x) n) (among (map name xs) n) (ih h)

  pub filter_distinct : (keep : X → Bool) (xs : List X) → distinct (map name xs) ≡ true → distinct (map name (filter keep xs)) ≡ true
  filter_distinct keep [] h = h
  filter_distinct keep (x ∷ xs) h =
      let once : among (map name xs) (name x) ≡ false = not-flip (among (map name xs) (name x)) (and-left (not (among (map name xs) (name x))) (distinct (map name xs)) h) in
      let rest : distinct (map name xs) ≡ true = and-right (not (among (map name xs) (name x))) (distinct (map name xs)) h in
      go (keep x) (filter keep xs)
      (not-true-false (among (map name (filter keep xs)) (name x)) (λ q. apart-absurd (among (map name xs) (name x)) (filter_among keep xs (name x) q) once))
      (filter_distinct keep xs rest)
    where
      go : (b : Bool) (ys : List X) → among (map name ys) (name x) ≡ false → distinct (map name ys) ≡ true → distinct (map name (if b then x ∷ ys else ys)) ≡ true
      go true ys a d = rw (a, d) refl
      go false ys a d = d

-- what holds of a list's parts holds of what is kept of it
pub each_kept : {X Y : Type 0} (P : Y → Type 0) (f : X → Y) (keep : X → Bool) (xs : List X) → AllByRecursion P (map f xs) → AllByRecursion P (map f (filter keep xs))
each_kept P f keep [] h = tt
each_kept P f keep (x ∷ xs) h = go (keep x) (filter keep xs) h.0 (each_kept P f keep xs h.1)
  where
    go : (b : Bool) (ys : List _) → P (f x) → AllByRecursion P (map f ys) → AllByRecursion P (map f (if b then x ∷ ys else ys))
    go true ys p q = (p, q)
    go false ys p q = q

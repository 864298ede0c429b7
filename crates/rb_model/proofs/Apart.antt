-- Lists of names of which no two are equal.
use Rattle.std.proofs.Common.{◌≡◌, ℕ, zero, suc, ◌+◌, ◌<◌, Bool, true, false, not, ◌&&◌, ◌||◌, if◌then◌else◌, Option, Some, None, List, [], ◌∷◌, ◌++◌, length, slice_get, map, filter, refl, ap, sym, ◌∙◌, subst, arith}
use Rattle.std.specs.Prelude.{IsTrue}
use Rattle.std.specs.Str.{bytes_eq}
use Rattle.std.specs.List.{enumerate_from, flat_map, list_any}
use Rattle.std.proofs.lemmas.Option.{same_Some}
use Rattle.std.proofs.lemmas.Slice.Eq.{bytes_eq-Decides}
use Rattle.v_design.specs.Lexemes.{among}
use Rattle.v_design.specs.WellFormed.{distinct}
use Rattle.rb_model.specs.References.{Each}
use Rattle.rb_model.proofs.Eachs.{Each-append, Each-weaker, Each-both, Each-at, Each-flat_map}
use Rattle.rb_model.proofs.OwnViews.{by_cases, both_true, not_true}

abbrev pub Name : Type 0
Name = List ℕ

abbrev pub Apart : List Name → Type 0
Apart [] = Unit {0}
Apart (n ∷ ns) = Each (λ m. m ≡ n → ⊥) ns × Apart ns

pub bytes_eq-from : (m n : Name) → m ≡ n → bytes_eq m n ≡ true
bytes_eq-from m n e = (bytes_eq-Decides m n).1 e

pub bytes_eq-to : (m n : Name) → bytes_eq m n ≡ true → m ≡ n
bytes_eq-to m n e = (bytes_eq-Decides m n).0 e

pub bytes_eq-not : (m n : Name) → (m ≡ n → ⊥) → bytes_eq m n ≡ false
bytes_eq-not m n h = by_cases (bytes_eq m n) (λ t. absurd (h (bytes_eq-to m n t))) (λ f. f)

not_among : (ns : List Name) (n : Name) → Each (λ m. m ≡ n → ⊥) ns → among ns n ≡ false
not_among [] n h = refl
not_among (m ∷ ns) n h = let e : bytes_eq m n ≡ false = bytes_eq-not m n h.0 in let r : among ns n ≡ false = not_among ns n h.1 in rw (e, r) refl

pub distinct-from : (ns : List Name) → Apart ns → distinct ns ≡ true
distinct-from [] h = refl
distinct-from (n ∷ ns) h = let e : among ns n ≡ false = not_among ns n h.0 in let r : distinct ns ≡ true = distinct-from ns h.1 in rw (e, r) refl

or_false : (a b : Bool) → (a || b) ≡ false → (a ≡ false) × (b ≡ false)
or_false true b h = cc
or_false false b h = (refl, h)

among_not : (ns : List Name) (n : Name) → among ns n ≡ false → Each (λ m. m ≡ n → ⊥) ns
among_not [] n h = tt
among_not (m ∷ ns) n h =
    let p : (bytes_eq m n ≡ false) × (among ns n ≡ false) = or_false (bytes_eq m n) (among ns n) h in
    (λ e. let t : bytes_eq m n ≡ true = bytes_eq-from m n e in let f : bytes_eq m n ≡ false = p.0 in cc, among_not ns n p.1)

pub Apart-from : (ns : List Name) → distinct ns ≡ true → Apart ns
Apart-from [] h = tt
Apart-from (n ∷ ns) h = let p : (not (among ns n) ≡ true) × (distinct ns ≡ true) = both_true (not (among ns n)) (distinct ns) h in (among_not ns n (not_true (among ns n) p.0), Apart-from ns p.1)

-- one name stands at one place
pub Apart-place : (ns : List Name) (i j : ℕ) (n : Name) → Apart ns → slice_get ns i ≡ Some n → slice_get ns j ≡ Some n → i ≡ j
Apart-place [] i j n h a b = cc
Apart-place (m ∷ ns) zero zero n h a b = refl
Apart-place (m ∷ ns) zero (suc j) n h a b = let q : m ≡ n = same_Some m n a in absurd (Each-at (λ x. x ≡ m → ⊥) ns j n h.0 b (sym q))
Apart-place (m ∷ ns) (suc i) zero n h a b = let q : m ≡ n = same_Some m n b in absurd (Each-at (λ x. x ≡ m → ⊥) ns i n h.0 a (sym q))
Apart-place (m ∷ ns) (suc i) (suc j) n h a b = ap suc (Apart-place ns i j n h.1 a b)

-- names of two kinds that exclude each other
pub Apart-kinds : (P Q : Name → Type 0) → ((m n : Name) → P m → Q n → n ≡ m → ⊥) → (ms ns : List Name) → Apart ms → Apart ns → Each P ms → Each Q ns → Apart (ms ++ ns)
Apart-kinds P Q differ [] ns a b p q = b
Apart-kinds P Q differ (m ∷ ms) ns a b p q =
    (Each-append (λ x. x ≡ m → ⊥) ms ns a.0 (Each-weaker Q (λ x. x ≡ m → ⊥) (λ x k. differ m x p.0 k) ns q), Apart-kinds P Q differ ms ns a.1 b p.1 q)

-- what is made of elements whose keys are apart
pub Apart-flat_map : {X : Type 0} (P : Name → Name → Type 0) → ((p q m n : Name) → P p m → P q n → n ≡ m → p ≡ q)
    → (key : X → Name) (f : X → List Name) (xs : List X) → Apart (map key xs) → Each (λ x. Apart (f x) × Each (P (key x)) (f x)) xs → Apart (flat_map f xs)
Apart-flat_map P one key f [] a h = tt
Apart-flat_map {X} P one key f (x ∷ xs) a h =
    Apart-kinds (P (key x)) (λ n. (q : Name) × (P q n × (q ≡ key x → ⊥))) (λ m n p q e. q.1.1 (sym (one (key x) q.0 m n p q.1.0 e))) (f x) (flat_map f xs)
    h.0.0 (Apart-flat_map P one key f xs a.1 h.1) h.0.1
    (Each-flat_map (λ n. (q : Name) × (P q n × (q ≡ key x → ⊥))) f xs (others xs a.0 h.1))
  where
    others : (ys : List X) → Each (λ q. q ≡ key x → ⊥) (map key ys) → Each (λ y. Apart (f y) × Each (P (key y)) (f y)) ys → Each (λ y. Each (λ n. (q : Name) × (P q n × (q ≡ key x → ⊥))) (f y)) ys
    others [] b k = tt
    others (y ∷ ys) b k = (Each-weaker (P (key y)) (λ n. (q : Name) × (P q n × (q ≡ key x → ⊥))) (λ n p. (key y, (p, b.0))) (f y) k.0.1, others ys b.1 k.1)

-- fewer names
pub Each-filter : {X : Type 0} (P : X → Type 0) (test : X → Bool) (xs : List X) → Each P xs → Each P (filter test xs)
Each-filter P test [] h = tt
Each-filter P test (x ∷ xs) h = by_cases (test x)
    (λ t. let r : Each P (x ∷ filter test xs) = (h.0, Each-filter P test xs h.1) in rw t r)
    (λ t. let r : Each P (filter test xs) = Each-filter P test xs h.1 in rw t r)

key_each : {X : Type 0} (key : X → Name) (P : Name → Type 0) (xs : List X) → Each P (map key xs) → Each (λ x. P (key x)) xs
key_each key P [] h = tt
key_each key P (x ∷ xs) h = (h.0, key_each key P xs h.1)

map_each : {X : Type 0} (key : X → Name) (P : Name → Type 0) (xs : List X) → Each (λ x. P (key x)) xs → Each P (map key xs)
map_each key P [] h = tt
map_each key P (x ∷ xs) h = (h.0, map_each key P xs h.1)

pub Apart-filter : {X : Type 0} (key : X → Name) (test : X → Bool) (xs : List X) → Apart (map key xs) → Apart (map key (filter test xs))
Apart-filter key test [] a = tt
Apart-filter key test (x ∷ xs) a = by_cases (test x)
    (λ t. let r : Apart (key x ∷ map key (filter test xs)) = (map_each key (λ n. n ≡ key x → ⊥) (filter test xs) (Each-filter (λ y. key y ≡ key x → ⊥) test xs (key_each key (λ n. n ≡ key x → ⊥) xs a.0)), Apart-filter key test xs a.1) in rw t r)
    (λ t. let r : Apart (map key (filter test xs)) = Apart-filter key test xs a.1 in rw t r)

-- keys of numbered elements
pub map-enumerate_from : {X Y : Type 0} (f : X → Y) (n : ℕ) (xs : List X) → map (λ e. f e.1) (enumerate_from n xs) ≡ map f xs
map-enumerate_from f n [] = refl
map-enumerate_from f n (x ∷ xs) = ap (λ ys. f x ∷ ys) (map-enumerate_from f (n + 1) xs)

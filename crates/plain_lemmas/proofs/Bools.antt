-- Lemmas on booleans.
use Rattle.std.proofs.Common.{◌≡◌, ℕ, Bool, true, false, if◌then◌else◌, refl, ◌&&◌, ◌||◌, not, ◌⊎◌, inl, inr, sym, arith, cond, ap}
use Rattle.std.proofs.lemmas.Bool.{and_parts}

pub if-same : (c : Bool) (x : ℕ) → (if c then x else x) ≡ x
if-same true x = refl
if-same false x = refl

pub same-if : (c : Bool) (y : ℕ) → y ≡ (if c then y else y)
same-if true y = refl
same-if false y = refl

pub and-false : (b : Bool) → (b && false) ≡ false
and-false true = refl
and-false false = refl

pub and-true : (c : Bool) → (c && true) ≡ c
and-true true = refl
and-true false = refl

pub or-false : (b : Bool) → (b || false) ≡ b
or-false true = refl
or-false false = refl

pub or-true : (c : Bool) → (c || true) ≡ true
or-true true = refl
or-true false = refl

pub false-of_not_true : (t : Bool) → (t ≡ true → ⊥) → t ≡ false
false-of_not_true true h = absurd (h refl)
false-of_not_true false h = refl

pub true-of_not : (c : Bool) → not c ≡ false → c ≡ true
true-of_not true e = refl
true-of_not false e = cc

pub false-of_not : (b : Bool) → not b ≡ true → b ≡ false
false-of_not true e = cc
false-of_not false e = refl

pub and_true-is : (c : Bool) → c ≡ (c && true)
and_true-is true = refl
and_true-is false = refl

pub and-both : (a b : Bool) → (a && b) ≡ true → (a ≡ true) × (b ≡ true)
and-both true b e = (refl, e)
and-both false b e = cc e

pub and-left : (a b : Bool) → (a && b) ≡ true → a ≡ true
and-left a b h = (and_parts a b h).0

pub and-right : (a b : Bool) → (a && b) ≡ true → b ≡ true
and-right a b h = (and_parts a b h).1

pub or-neither : (a b : Bool) → (a || b) ≡ false → (a ≡ false) × (b ≡ false)
or-neither true b e = cc
or-neither false b e = (refl, e)

pub or-left_false : (a b : Bool) → (a || b) ≡ false → a ≡ false
or-left_false false b e = refl
or-left_false true b e = cc e

pub or-right_false : (a b : Bool) → (a || b) ≡ false → b ≡ false
or-right_false true b h = cc h
or-right_false false b h = h

pub or-either : (a b : Bool) → (a || b) ≡ true → (a ≡ true) ⊎ (b ≡ true)
or-either true b e = inl refl
or-either false b e = inr e

pub same-both_ways : (a b : Bool) → (a ≡ true → b ≡ true) → (b ≡ true → a ≡ true) → a ≡ b
same-both_ways true b f g = sym (f refl)
same-both_ways false true f g = g refl
same-both_ways false false f g = refl

pub and-false_left : (a b : Bool) → a ≡ false → (a && b) ≡ false
and-false_left a b e = grind arith

pub and-both_true : (a b : Bool) → a ≡ true → b ≡ true → (a && b) ≡ true
and-both_true a b p q = rw (p, q)

pub or-true_right : (a b : Bool) → b ≡ true → (a || b) ≡ true
or-true_right true b h = refl
or-true_right false b h = h

pub or-assoc : (a b c : Bool) → (a || b) || c ≡ a || (b || c)
or-assoc true b c = refl
or-assoc false b c = refl

pub cond-map : {A B : Type 0} (g : A → B) (b : Bool) (x y : A) → cond b (g x) (g y) ≡ g (cond b x y)
cond-map g true x y = refl
cond-map g false x y = refl

pub or-left : (a b : Bool) → a ≡ true → (a || b) ≡ true
or-left true b h = refl
or-left false b h = cc

pub and-true_left : (a b : Bool) → a ≡ true → (a && b) ≡ b
and-true_left a b e = grind arith

pub not-of_false : (b : Bool) → b ≡ false → not b ≡ true
not-of_false b e = ap not e

pub true_or_false : (b : Bool) → (b ≡ true) ⊎ (b ≡ false)
true_or_false true = inl refl
true_or_false false = inr refl

-- Enumerations that are one, and their numbers.
use Rattle.std.proofs.Common.{◌≡◌, ◌∙◌, ℕ, ◌+◌, Bool, true, false, ◌&&◌, ◌||◌, cond, nat_eq, bytes_eq, List, [], ◌∷◌, ◌++◌, length, None, Some, is_some, refl, sym, ap, arith}
use Rattle.std.specs.Bool.{Decides}
use Rattle.std.specs.Cmp.Lexicographic.{bytes_decides, pointwise_decides}
use Rattle.std.specs.List.{list_any, position_from}
use Rattle.std.specs.Option.{option_or}
use Rattle.std.proofs.lemmas.Bool.Decides.{Decides-eqb}
use Rattle.rdl_values.specs.Values.{EnumOf}
use Rattle.rdl_encodings.specs.Same.{number_in, same_entries, same_enum, with_one}

pub both-true : (a b : Bool) → (a && b) ≡ true → (a ≡ true) × (b ≡ true)
both-true true b e = (refl, e)
both-true false b e = cc e

true-both : (a b : Bool) → a ≡ true → b ≡ true → (a && b) ≡ true
true-both a b p q = rw (p, q) refl

-- The tests decide.

entry-decides : (x y : List ℕ × ℕ) → Decides (bytes_eq x.0 y.0 && nat_eq x.1 y.1) (x ≡ y)
entry-decides x y = (
  λ e. let b = both-true (bytes_eq x.0 y.0) (nat_eq x.1 y.1) e in λ i. ((bytes_decides x.0 y.0).0 b.0 i, (Decides-eqb x.1 y.1).0 b.1 i),
  λ e. true-both (bytes_eq x.0 y.0) (nat_eq x.1 y.1) ((bytes_decides x.0 y.0).1 (ap (λ (z : List ℕ × ℕ). z.0) e)) ((Decides-eqb x.1 y.1).1 (ap (λ (z : List ℕ × ℕ). z.1) e)),
)

pub entries-decide : (xs ys : List (List ℕ × ℕ)) → Decides (same_entries xs ys) (xs ≡ ys)
entries-decide xs ys = pointwise_decides entry-decides xs ys

-- one place, and the same entries
pub one-enum : (a b : EnumOf) → same_enum a b ≡ true → (a.place ≡ b.place) × (a.entries ≡ b.entries)
one-enum a b e =
    let t = both-true (nat_eq a.place b.place) (same_entries a.entries b.entries) e in
    ((Decides-eqb a.place b.place).0 t.0, (entries-decide a.entries b.entries).0 t.1)

pub enum-one : (a b : EnumOf) → a.place ≡ b.place → a.entries ≡ b.entries → same_enum a b ≡ true
enum-one a b p q = true-both (nat_eq a.place b.place) (same_entries a.entries b.entries) ((Decides-eqb a.place b.place).1 p) ((entries-decide a.entries b.entries).1 q)

-- what is the same as one is tested alike
pub alike-left : (a b e : EnumOf) → same_enum a b ≡ true → same_enum a e ≡ same_enum b e
alike-left a b e t = let s = one-enum a b t in λ i. nat_eq (s.0 i) e.place && same_entries (s.1 i) e.entries

pub alike-right : (a b e : EnumOf) → same_enum a b ≡ true → same_enum e a ≡ same_enum e b
alike-right a b e t = let s = one-enum a b t in λ i. nat_eq e.place (s.0 i) && same_entries e.entries (s.1 i)

-- Positions.

module _ {X : Type 0} (t : X → Bool) where
  pub position-push : (i : ℕ) (xs : List X) (y : X) → position_from t i (xs ++ (y ∷ [])) ≡ option_or (position_from t i xs) (cond (t y) (Some (i + length xs)) None)
  position-push i [] y = let same : i ≡ i + 0 = omega arith in ap (λ k. cond (t y) (Some k) None) same
  position-push i (x ∷ xs) y = go (t x) (position-push (i + 1) xs y)
    where
      place : i + 1 + length xs ≡ i + length (x ∷ xs)
      place = omega arith

      go : (b : Bool) → position_from t (i + 1) (xs ++ (y ∷ [])) ≡ option_or (position_from t (i + 1) xs) (cond (t y) (Some (i + 1 + length xs)) None)
          → cond b (Some i) (position_from t (i + 1) (xs ++ (y ∷ []))) ≡ option_or (cond b (Some i) (position_from t (i + 1) xs)) (cond (t y) (Some (i + length (x ∷ xs))) None)
      go true h = refl
      go false h = h ∙ ap (λ k. option_or (position_from t (i + 1) xs) (cond (t y) (Some k) None)) place

  pub position-any : (i : ℕ) (xs : List X) → is_some (position_from t i xs) ≡ list_any t xs
  position-any i [] = refl
  position-any i (x ∷ xs) = go (t x) (position-any (i + 1) xs)
    where
      go : (b : Bool) → is_some (position_from t (i + 1) xs) ≡ list_any t xs → is_some (cond b (Some i) (position_from t (i + 1) xs)) ≡ (b || list_any t xs)
      go true h = refl
      go false h = h

-- a list where one more is put behind it only if it is new
pub there : (ls : List (ℕ × EnumOf)) (i : ℕ) (e : EnumOf) (n : ℕ) → number_in ls e ≡ Some n → with_one ls i e ≡ ls
there ls i e n h = ap (λ b. cond b ls (ls ++ ((i, e) ∷ []))) (sym (position-any (λ x. same_enum x.1 e) 0 ls) ∙ ap is_some h)

pub absent : (ls : List (ℕ × EnumOf)) (i : ℕ) (e : EnumOf) → number_in ls e ≡ None → with_one ls i e ≡ ls ++ ((i, e) ∷ [])
absent ls i e h = ap (λ b. cond b ls (ls ++ ((i, e) ∷ []))) (sym (position-any (λ x. same_enum x.1 e) 0 ls) ∙ ap is_some h)

-- numbers stay
pub stays : (ls : List (ℕ × EnumOf)) (i : ℕ) (d e : EnumOf) (n : ℕ) → number_in ls e ≡ Some n → number_in (with_one ls i d) e ≡ Some n
stays ls i d e n h = go (list_any (λ x. same_enum x.1 d) ls)
  where
    go : (b : Bool) → number_in (cond b ls (ls ++ ((i, d) ∷ []))) e ≡ Some n
    go true = h
    go false = position-push (λ x. same_enum x.1 e) 0 ls (i, d) ∙ ap (λ o. option_or o (cond (same_enum d e) (Some (0 + length ls)) None)) h

-- the number of one that is new
pub at-end : (ls : List (ℕ × EnumOf)) (i : ℕ) (e : EnumOf) → number_in ls e ≡ None → number_in (ls ++ ((i, e) ∷ [])) e ≡ Some (length ls)
at-end ls i e h =
    let zero-more : 0 + length ls ≡ length ls = omega arith in
    position-push (λ x. same_enum x.1 e) 0 ls (i, e) ∙ (ap (λ o. option_or o (cond (same_enum e e) (Some (0 + length ls)) None)) h
    ∙ (ap (λ b. option_or None (cond b (Some (0 + length ls)) None)) (enum-one e e refl refl) ∙ ap Some zero-more))

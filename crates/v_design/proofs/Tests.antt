-- What tests of texts tell.
use Rattle.std.specs.List.{list_all}
use Rattle.std.specs.Str.{bytes_eq}
use Rattle.std.proofs.Common.{◌≡◌, ℕ, Bool, true, ◌&&◌, List, [], ◌∷◌, ◌++◌, refl, subst, inl, inr}
use Rattle.std.proofs.lemmas.Bool.{and_parts, or_cases}
use Rattle.std.proofs.lemmas.Slice.Eq.{bytes_eq-Decides}
use Rattle.v_design.specs.Lexemes.{among}

pub and-left : (a b : Bool) → (a && b) ≡ true → a ≡ true
and-left a b h = (and_parts a b h).0

pub and-right : (a b : Bool) → (a && b) ≡ true → b ≡ true
and-right a b h = (and_parts a b h).1

pub same-refl : (xs : List ℕ) → bytes_eq xs xs ≡ true
same-refl xs = (bytes_eq-Decides xs xs).1 refl

pub same-true : (xs ys : List ℕ) → bytes_eq xs ys ≡ true → xs ≡ ys
same-true xs ys h = (bytes_eq-Decides xs ys).0 h

-- A text that is one of these passes a test that all of them pass.
pub among-passes : (p : List ℕ → Bool) (ws : List (List ℕ)) (w : List ℕ) → list_all p ws ≡ true → among ws w ≡ true → p w ≡ true
among-passes p [] w all h = cc
among-passes p (v ∷ ws) w all h = elim (or_cases (bytes_eq v w) (among ws w) h) [
  | inl here ↦ (let P : List ℕ → Type 0 = λ x. p x ≡ true in subst P (same-true v w here) (and-left (p v) (list_all p ws) all))
  | inr there ↦ among-passes p ws w (and-right (p v) (list_all p ws) all) there
]

pub all_bytes-at : (p : ℕ → Bool) (xs : List ℕ) (c : ℕ) (cs : List ℕ) → list_all p (xs ++ (c ∷ cs)) ≡ true → p c ≡ true
all_bytes-at p [] c cs h = and-left (p c) (list_all p cs) h
all_bytes-at p (x ∷ xs) c cs h = all_bytes-at p xs c cs (and-right (p x) (list_all p (xs ++ (c ∷ cs))) h)

-- What is spelled is read back.
use Rattle.std.proofs.Common.{◌≡◌, ◌∙◌, ℕ, ◌==◌, Bool, true, false, cond, List, [], ◌∷◌, ◌++◌, append-nil, append_assoc, codes, refl, sym, ap}
use Rattle.c_header.specs.Names.{spelled, spelled_byte}
use Rattle.plain_lemmas.proofs.Numbers.{eq-same}

-- a path, up to a `_` that spells no byte
abbrev pub read : Bool → List ℕ → List ℕ
read true [] = []
read true (c ∷ cs) = cond (c == 48) (95 ∷ read false cs) (cond (c == 49) (36 ∷ read false cs) [])
read false [] = []
read false (b ∷ bs) = cond (b == 95) (read true bs) (b ∷ read false bs)

-- what stands behind that `_`
abbrev pub unread : Bool → List ℕ → List ℕ
unread true [] = []
unread true (c ∷ cs) = cond (c == 48) (unread false cs) (cond (c == 49) (unread false cs) (c ∷ cs))
unread false [] = []
unread false (b ∷ bs) = cond (b == 95) (unread true bs) (unread false bs)

read-byte : (b : ℕ) (rest : List ℕ) → read false (spelled_byte b ++ rest) ≡ b ∷ read false rest
read-byte b rest = go (b == 95) (b == 36) refl refl
  where
    go : (under dollar : Bool) → (b == 95) ≡ under → (b == 36) ≡ dollar → read false (cond under (codes "_0") (cond dollar (codes "_1") (b ∷ [])) ++ rest) ≡ b ∷ read false rest
    go true dollar u d = ap (λ c. c ∷ read false rest) (sym (eq-same b 95 u))
    go false true u d = ap (λ c. c ∷ read false rest) (sym (eq-same b 36 d))
    go false false u d = ap (λ t. cond t (read true rest) (b ∷ read false rest)) u

unread-byte : (b : ℕ) (rest : List ℕ) → unread false (spelled_byte b ++ rest) ≡ unread false rest
unread-byte b rest = go (b == 95) (b == 36) refl
  where
    go : (under dollar : Bool) → (b == 95) ≡ under → unread false (cond under (codes "_0") (cond dollar (codes "_1") (b ∷ [])) ++ rest) ≡ unread false rest
    go true dollar u = refl
    go false true u = refl
    go false false u = ap (λ t. cond t (unread true rest) (unread false rest)) u

pub read-front : (p rest : List ℕ) → read false (spelled p ++ rest) ≡ p ++ read false rest
read-front [] rest = refl
read-front (b ∷ p) rest = ap (read false) (append_assoc (spelled_byte b) (spelled p) rest) ∙ read-byte b (spelled p ++ rest) ∙ ap (λ q. b ∷ q) (read-front p rest)

pub unread-front : (p rest : List ℕ) → unread false (spelled p ++ rest) ≡ unread false rest
unread-front [] rest = refl
unread-front (b ∷ p) rest = ap (unread false) (append_assoc (spelled_byte b) (spelled p) rest) ∙ unread-byte b (spelled p ++ rest) ∙ unread-front p rest

pub read-all : (p : List ℕ) → read false (spelled p) ≡ p
read-all p = ap (read false) (sym (append-nil (spelled p))) ∙ read-front p [] ∙ append-nil p

-- paths that are spelled alike are one
pub one-spelling : (p q : List ℕ) → spelled p ≡ spelled q → p ≡ q
one-spelling p q e = sym (read-all p) ∙ ap (read false) e ∙ read-all q

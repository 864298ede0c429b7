-- Words joined by '$' can be told apart again.
use Rattle.std.proofs.Common.{◌≡◌, ◌≢◌, ◌∙◌, ℕ, List, [], ◌∷◌, ◌++◌, refl, sym, ap, subst}
use Rattle.std.specs.List.{AllByRecursion, join_with_byte}
use Rattle.plain_lemmas.proofs.Lists.{nil-cons as one_is_none}

-- none of the bytes is '$'
abbrev pub IsPlain : List ℕ → Type 0
IsPlain [] = Unit {0}
IsPlain (b ∷ bs) = (b ≢ 36) × IsPlain bs

-- some bytes, none of them '$'
abbrev pub IsText : List ℕ → Type 0
IsText [] = ⊥
IsText (b ∷ bs) = (b ≢ 36) × IsPlain bs

plain : (w : List ℕ) → IsText w → IsPlain w
plain [] h = absurd h
plain (b ∷ bs) h = h

abbrev pub head_or : {X : Type 0} → X → List X → X
head_or d [] = d
head_or d (x ∷ xs) = x

abbrev pub rest_of : {X : Type 0} → List X → List X
rest_of [] = []
rest_of (x ∷ xs) = xs

has_dollar : (w rest : List ℕ) → IsPlain (w ++ (36 ∷ rest)) → ⊥
has_dollar [] rest h = h.0 refl
has_dollar (b ∷ bs) rest h = has_dollar bs rest h.1

-- two texts before a '$' are one
cut : (x y a b : List ℕ) → IsPlain x → IsPlain y → x ++ (36 ∷ a) ≡ y ++ (36 ∷ b) → (x ≡ y) × (a ≡ b)
cut [] [] a b p q e = (refl, ap rest_of e)
cut [] (c ∷ y) a b p q e = absurd (q.0 (sym (ap (head_or 0) e)))
cut (c ∷ x) [] a b p q e = absurd (p.0 (ap (head_or 0) e))
cut (c ∷ x) (d ∷ y) a b p q e =
    let both = cut x y a b p.1 q.1 (ap rest_of e) in
    (ap (λ h. h ∷ x) (ap (head_or 0) e) ∙ ap (λ t. d ∷ t) both.0, both.1)

some_text : (w : List ℕ) (ws : List (List ℕ)) → IsText w → [] ≡ join_with_byte 36 (w ∷ ws) → ⊥
some_text [] ws h e = h
some_text (b ∷ bs) [] h e = one_is_none b bs e
some_text (b ∷ bs) (v ∷ ws) h e = one_is_none b (bs ++ (36 ∷ join_with_byte 36 (v ∷ ws))) e

pub joined_once : (xs ys : List (List ℕ)) → AllByRecursion IsText xs → AllByRecursion IsText ys → join_with_byte 36 xs ≡ join_with_byte 36 ys → xs ≡ ys
joined_once [] [] h g e = refl
joined_once [] (y ∷ ys) h g e = absurd (some_text y ys g.0 e)
joined_once (x ∷ xs) [] h g e = absurd (some_text x xs h.0 (sym e))
joined_once (x ∷ []) (y ∷ []) h g e = ap (λ w. w ∷ []) e
joined_once (x ∷ []) (y ∷ z ∷ ys) h g e = absurd (has_dollar y (join_with_byte 36 (z ∷ ys)) (subst IsPlain e (plain x h.0)))
joined_once (x ∷ w ∷ xs) (y ∷ []) h g e = absurd (has_dollar x (join_with_byte 36 (w ∷ xs)) (subst IsPlain (sym e) (plain y g.0)))
joined_once (x ∷ w ∷ xs) (y ∷ z ∷ ys) h g e =
    let both = cut x y (join_with_byte 36 (w ∷ xs)) (join_with_byte 36 (z ∷ ys)) (plain x h.0) (plain y g.0) e in
    let rest = joined_once (w ∷ xs) (z ∷ ys) h.1 g.1 both.1 in
    ap (λ v. v ∷ w ∷ xs) both.0 ∙ ap (λ vs. y ∷ vs) rest

-- A text has one table or one first problem.
use Rattle.std.specs.Prelude.{IsSomeAnd, slice_get}
use Rattle.std.proofs.Common.{◌≡◌, ℕ, suc, ◌<◌, ◌≤◌, Option, Some, List, [], ◌∷◌, length, map, refl, ap, sym, ◌∙◌, subst, arith, ◌⊎◌, inl, inr}
use Rattle.rb_base.specs.declared.ports.Pin.{Pin}
use Rattle.rb_grammar.proofs.OneSpelling.{spells_once}
use Rattle.rb_grammar.proofs.Bridge.{fits_begins}
use Rattle.vcd_syntax.specs.Grammar.{grammar}
use Rattle.vcd_syntax.specs.Words.{vcd}
use Rattle.vcd_syntax.specs.Tokens.{Word, Token, AreBegun, AreWhole}
use Rattle.vcd_syntax.specs.Meaning.{pins, values_at, AreRows}
use Rattle.vcd_syntax.specs.Faulty.{Problem, Misformed, Repeated, Unknown, Unfit, Untimely, Excessive, turn}
use Rattle.vcd_syntax.specs.Reading.{IsFirst, IsSound, IsTable}
use Rattle.vcd_syntax.proofs.OneMarking.{one_marking}

begun : (ws : List Word) (ms : List Token) → AreWhole ws ms → AreBegun ws ms
begun ws ms h = record { are = h.are; each = h.each; begins = fits_begins grammar h.fits }

pub one_sound : (text : List ℕ) (ms ns : List Token) → IsSound text ms → IsSound text ns → ms ≡ ns
one_sound text ms ns p q =
    let same = spells_once vcd text p.words q.words p.spelled q.spelled in
    one_marking p.words ms ns (begun p.words ms p.whole) (subst (λ z. AreBegun z ns) (sym same) (begun q.words ns q.whole))

some_same : (xs ys : List ℕ) → map Some xs ≡ map Some ys → xs ≡ ys
some_same [] [] e = refl
some_same [] (y ∷ ys) e = cc
some_same (x ∷ xs) [] e = cc
some_same (x ∷ xs) (y ∷ ys) e =
    let head : x ≡ y = cc in
    let tail : map Some xs ≡ map Some ys = cc in
    ap (λ z. z ∷ xs) head ∙ ap (λ z. y ∷ z) (some_same xs ys tail)

same_at : (P : ℕ → List (Option ℕ)) (rows others : List (List ℕ)) → length rows ≡ length others
    → ((k : ℕ) → k < length rows → IsSomeAnd (slice_get rows k) (λ row. map Some row ≡ P k)) → ((k : ℕ) → k < length others → IsSomeAnd (slice_get others k) (λ row. map Some row ≡ P k)) → rows ≡ others
same_at P [] [] e f g = refl
same_at P [] (y ∷ ys) e f g = absurd (omega arith)
same_at P (x ∷ xs) [] e f g = absurd (omega arith)
same_at P (x ∷ xs) (y ∷ ys) e f g =
    let head = some_same x y (f 0 (omega arith) ∙ sym (g 0 (omega arith))) in
    let tail = same_at (λ k. P (suc k)) xs ys (omega (arith, e)) (λ k l. f (suc k) (omega (arith, l))) (λ k l. g (suc k) (omega (arith, l))) in
    ap (λ z. z ∷ xs) head ∙ ap (λ z. y ∷ z) tail

pub one_table : (text : List ℕ) (ps qs : List Pin) (rows others : List (List ℕ)) → IsTable text ps rows → IsTable text qs others → (ps ≡ qs) × (rows ≡ others)
one_table text ps qs rows others p q =
    let same = one_sound text p.ms q.ms p.sound q.sound in
    let r : AreRows p.ms others = subst (λ z. AreRows z others) (sym same) q.values in
    (p.variables ∙ (ap pins same ∙ sym q.variables), same_at (values_at p.ms) rows others (p.values.count ∙ sym r.count) p.values.each r.each)

same_turn : (p q : Problem) → turn p ≡ turn q → p ≡ q
same_turn Misformed Misformed e = refl
same_turn Repeated Repeated e = refl
same_turn Unknown Unknown e = refl
same_turn Unfit Unfit e = refl
same_turn Untimely Untimely e = refl
same_turn Excessive Excessive e = refl
same_turn _ _ e = absurd (omega (arith, e))

pub one_problem : (text : List ℕ) (p q : Problem) (k j : ℕ) → IsFirst text p k → IsFirst text q j → (p ≡ q) × (k ≡ j)
one_problem text p q k j a b = go (a.first q j b.has) (b.first p k a.has)
  where
    go : (k < j) ⊎ ((k ≡ j) × (turn p ≤ turn q)) → (j < k) ⊎ ((j ≡ k) × (turn q ≤ turn p)) → (p ≡ q) × (k ≡ j)
    go (inl x) (inl y) = absurd (omega arith)
    go (inl x) (inr y) = absurd (omega (arith, y.0))
    go (inr x) (inl y) = absurd (omega (arith, x.0))
    go (inr x) (inr y) = (same_turn p q (omega (arith, x.1, y.1)), x.0)

pub no_both : (text : List ℕ) (ms : List Token) (p : Problem) (k : ℕ) → IsSound text ms → IsFirst text p k → ⊥
no_both text ms p k s f = s.none p k f.has

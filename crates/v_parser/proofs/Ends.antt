-- Where the tokens end, or stop being a module.
use Rattle.std.proofs.Common.{◌≡◌, ℕ, suc, ◌+◌, ◌-◌, ◌<◌, ◌≤◌, ◌==◌, true, false, List, [], ◌∷◌, ◌++◌, length, take, drop, refl, ap, sym, ◌∙◌, subst, arith, append_assoc, length-append, length-take, take-append-drop, append-nil, zero, eqb-true}
use Rattle.std.proofs.lemmas.List.{drop_at}
use Rattle.rb_grammar.specs.Forms.{Non, Fits, StopsAt, at_token, at_end}
use Rattle.rb_grammar.specs.Brackets.{counted, open_after, StaysWithin, IsFirstTooDeep}
use Rattle.std.specs.List.{fold}
use Rattle.rb_grammar.specs.Judging.{IsGood, IsWrongAt, IsTooDeepAt}
use Rattle.rb_grammar.proofs.Judgement.{wrong_whole, wrong_cut, too_deep_fits, too_deep_stops, good_not_too_deep, good_not_wrong}
use Rattle.v_syntax.specs.Tokens.{spotted, placed}
use Rattle.v_syntax.specs.declared.spot.VSpot.{VSpot}
use Rattle.v_syntax.specs.Grammar.{grammar, nesting, most_open, Module}
use Rattle.v_parser.specs.Reading.{nesting_in}
use Rattle.v_parser.proofs.Walking.{Tokens}

pub length_placed : (bytes : List ℕ) (xs : List VSpot) → length (placed bytes xs) ≡ length xs
length_placed bytes [] = refl
length_placed bytes (x ∷ xs) = ap suc (length_placed bytes xs)

pub take_placed : (bytes : List ℕ) (n : ℕ) (xs : List VSpot) → placed bytes (take n xs) ≡ take n (placed bytes xs)
take_placed bytes zero xs = refl
take_placed bytes (suc n) [] = refl
take_placed bytes (suc n) (x ∷ xs) = ap (λ z. spotted bytes x ∷ z) (take_placed bytes n xs)

pub none_left : (bytes : List ℕ) (rest : List VSpot) (us : Tokens) → placed bytes rest ≡ us → true ≡ (length rest == 0) → us ≡ []
none_left bytes [] us e h = sym e
none_left bytes (x ∷ xs) us e h = absurd (omega (arith, eqb-true _ _ (sym h)))

pub some_left : (bytes : List ℕ) (rest : List VSpot) (us : Tokens) → placed bytes rest ≡ us → false ≡ (length rest == 0) → 0 < length us
some_left bytes [] us e h = cc
some_left bytes (x ∷ xs) us e h = omega (arith, ap length e)

-- what is left is the end of the list
pub stops_left : (ts left : Tokens) → StopsAt grammar (Non Module) ts left → (front : Tokens) × (ts ≡ front ++ left)
stops_left ts _ (at_end b n) = (ts, sym (append-nil ts))
stops_left ts _ (at_token front after t e b n) = (front, e)

pub left_within : (ts left : Tokens) → StopsAt grammar (Non Module) ts left → length left ≤ length ts
left_within ts left s = let p = stops_left ts left s in omega (arith, ap length p.1, length-append p.0 left)

pub wrong_here : (ts left : Tokens) (k : ℕ) → StaysWithin nesting most_open ts → StopsAt grammar (Non Module) ts left → k ≡ length ts - length left → (k ≤ length ts) × IsWrongAt grammar nesting most_open (Non Module) ts (drop k ts)
wrong_here ts left k w s e =
    let p = stops_left ts left s in
    let len : length p.0 ≡ k = omega (arith, e, ap length p.1, length-append p.0 left) in
    let same : drop k ts ≡ left = ap (drop k) p.1 ∙ drop_at p.0 left k len in
    (omega (arith, e), rw same (wrong_whole grammar nesting most_open (Non Module) ts left w s))

pub wrong_before : (ts left : Tokens) (i k : ℕ) → IsFirstTooDeep nesting most_open ts i → StopsAt grammar (Non Module) (take (i + 1) ts) left → 0 < length left → k ≡ i + 1 - length left
    → (k ≤ length ts) × IsWrongAt grammar nesting most_open (Non Module) ts (drop k ts)
wrong_before ts left i k d s some e =
    let p = stops_left (take (i + 1) ts) left s in
    let cut : length (take (i + 1) ts) ≡ i + 1 = omega (arith, length-take (i + 1) ts, d.within) in
    let len : length p.0 ≡ k = omega (arith, e, cut, ap length p.1, length-append p.0 left) in
    let all : ts ≡ p.0 ++ (left ++ drop (i + 1) ts) = sym (take-append-drop (i + 1) ts) ∙ (ap (λ z. z ++ drop (i + 1) ts) p.1 ∙ append_assoc p.0 left (drop (i + 1) ts)) in
    let same : drop k ts ≡ left ++ drop (i + 1) ts = ap (drop k) all ∙ drop_at p.0 (left ++ drop (i + 1) ts) k len in
    (omega (arith, e, d.within), rw same (wrong_cut grammar nesting most_open (Non Module) ts left i d s some))

-- How deep brackets are nested in the tokens of the program.

open_placed : (bytes : List ℕ) (n : ℕ) (ts : List VSpot) → fold (λ n t. counted n (nesting_in bytes t)) n ts ≡ fold (λ n t. counted n (nesting t)) n (placed bytes ts)
open_placed bytes n [] = refl
open_placed bytes n (t ∷ ts) = open_placed bytes (counted n (nesting_in bytes t)) ts

pub within_placed : (bytes : List ℕ) (ts : List VSpot) → StaysWithin (nesting_in bytes) most_open ts → StaysWithin nesting most_open (placed bytes ts)
within_placed bytes ts h i l =
    let same : open_after (nesting_in bytes) (take i ts) ≡ open_after nesting (take i (placed bytes ts)) = open_placed bytes 0 (take i ts) ∙ ap (open_after nesting) (take_placed bytes i ts) in
    subst (λ n. n ≤ most_open) same (h i (omega (arith, l, length_placed bytes ts)))

pub first_placed : (bytes : List ℕ) (ts : List VSpot) (i : ℕ) → IsFirstTooDeep (nesting_in bytes) most_open ts i → IsFirstTooDeep nesting most_open (placed bytes ts) i
first_placed bytes ts i h = record {
  within = omega (arith, h.within, length_placed bytes ts);
  before = subst (λ z. StaysWithin nesting most_open z) (take_placed bytes i ts) (within_placed bytes (take i ts) h.before);
  passes = subst (λ n. most_open < n) (open_placed bytes 0 (take (i + 1) ts) ∙ ap (open_after nesting) (take_placed bytes (i + 1) ts)) h.passes;
}

-- What is concluded from the tokens up to and with the bracket that is nested too deep.

pub deep_fits : (bytes : List ℕ) (ts : List VSpot) (i : ℕ) → IsFirstTooDeep (nesting_in bytes) most_open ts i → Fits grammar (Non Module) (placed bytes (take (i + 1) ts)) → IsTooDeepAt grammar nesting most_open (Non Module) (placed bytes ts) i
deep_fits bytes ts i h f = too_deep_fits grammar nesting most_open (Non Module) (placed bytes ts) i (first_placed bytes ts i h) (subst (λ z. Fits grammar (Non Module) z) (take_placed bytes (i + 1) ts) f)

pub deep_stops : (bytes : List ℕ) (ts : List VSpot) (us : Tokens) (i : ℕ) → IsFirstTooDeep (nesting_in bytes) most_open ts i → StopsAt grammar (Non Module) (placed bytes (take (i + 1) ts)) us → length us ≡ 0 → IsTooDeepAt grammar nesting most_open (Non Module) (placed bytes ts) i
deep_stops bytes ts us i h s e =
    too_deep_stops grammar nesting most_open (Non Module) (placed bytes ts) us i (first_placed bytes ts i h) (subst (λ z. StopsAt grammar (Non Module) z us) (take_placed bytes (i + 1) ts) s) e

pub deep_wrong : (bytes : List ℕ) (ts : List VSpot) (us : Tokens) (i k : ℕ) → IsFirstTooDeep (nesting_in bytes) most_open ts i → StopsAt grammar (Non Module) (placed bytes (take (i + 1) ts)) us → 0 < length us → k ≡ i + 1 - length us
    → (k ≤ length (placed bytes ts)) × IsWrongAt grammar nesting most_open (Non Module) (placed bytes ts) (drop k (placed bytes ts))
deep_wrong bytes ts us i k h s e f =
    wrong_before (placed bytes ts) us i k (first_placed bytes ts i h) (subst (λ z. StopsAt grammar (Non Module) z us) (take_placed bytes (i + 1) ts) s) e f

pub deep_within : (bytes : List ℕ) (ts : List VSpot) (us : Tokens) (i : ℕ) → StopsAt grammar (Non Module) (placed bytes (take (i + 1) ts)) us → length us ≤ i + 1
deep_within bytes ts us i s = omega (arith, left_within (placed bytes (take (i + 1) ts)) us s, length_placed bytes (take (i + 1) ts), length-take (i + 1) ts)

pub all_within : (bytes : List ℕ) (ts : List VSpot) (us : Tokens) → StopsAt grammar (Non Module) (placed bytes ts) us → length us ≤ length ts
all_within bytes ts us s = omega (arith, left_within (placed bytes ts) us s, length_placed bytes ts)

pub wrong_all : (bytes : List ℕ) (ts : List VSpot) (us : Tokens) (k : ℕ) → StaysWithin (nesting_in bytes) most_open ts → StopsAt grammar (Non Module) (placed bytes ts) us → k ≡ length ts - length us
    → (k ≤ length (placed bytes ts)) × IsWrongAt grammar nesting most_open (Non Module) (placed bytes ts) (drop k (placed bytes ts))
wrong_all bytes ts us k w s e = wrong_here (placed bytes ts) us k (within_placed bytes ts w) s (omega (arith, e, length_placed bytes ts))

pub not_good : (bytes : List ℕ) (ts : List VSpot) (i : ℕ) → IsGood grammar nesting most_open (Non Module) (placed bytes ts) → IsTooDeepAt grammar nesting most_open (Non Module) (placed bytes ts) i → ⊥
not_good bytes ts i g d = good_not_too_deep grammar nesting most_open (Non Module) (placed bytes ts) i g d

pub not_wrong : (bytes : List ℕ) (ts : List VSpot) (k : ℕ) → IsGood grammar nesting most_open (Non Module) (placed bytes ts) → (k ≤ length (placed bytes ts)) × IsWrongAt grammar nesting most_open (Non Module) (placed bytes ts) (drop k (placed bytes ts)) → ⊥
not_wrong bytes ts k g w = good_not_wrong grammar nesting most_open (Non Module) (placed bytes ts) (drop k (placed bytes ts)) g w.1

-- A list of tokens is good, wrong at one place, or too deep at one place, and no two of these.
use Rattle.std.proofs.Common.{◌≡◌, ℕ, suc, ◌+◌, ◌-◌, ◌<◌, ◌≤◌, List, [], ◌∷◌, ◌++◌, length, take, drop, refl, ap, sym, ◌∙◌, arith, inl, inr, append_assoc, subst, length-append, length-take, length-drop, take-append-drop}
use Rattle.std.proofs.lemmas.List.{take-take}
use Rattle.std.proofs.lemmas.Bool.{cases_order, cases_lt}
use Rattle.rb_base.specs.declared.place.Place.{Place}
use Rattle.rb_grammar.specs.Forms.{Non, Fits, Begins, StopsAt, at_token, at_end}
use Rattle.rb_grammar.proofs.Bridge.{begins_front, fits_begins, never_stops}
use Rattle.rb_grammar.proofs.Judgement.{stops_once}
use Rattle.rdl_tree.specs.declared.token.Token.{Token}
use Rattle.rdl_tree.specs.Grammar.{grammar}
use Rattle.rdl_tree.specs.Grammar as rules
use Rattle.rdl_lexer.specs.Depth.{depth_after, IsWithin, StaysWithin, IsFirstTooDeep}
use Rattle.rdl_parser.specs.Judging.{IsGood, IsWrongAt, IsTooDeepAt}
use Rattle.rdl_parser.specs.Verdicts.{place_of, rule_of}

abbrev pub Stopping : List Token → List Token → Type 0
Stopping ts left = StopsAt grammar (Non rules.Source) ts left

abbrev pub Beginning : List Token → Type 0
Beginning ts = Begins grammar (Non rules.Source) ts

-- the front before a token, with that token, is a front of every longer one
front_in : (a b x y : List Token) (t : Token) → a ++ (t ∷ x) ≡ b ++ y → length a < length b → (m : List Token) × (b ≡ (a ++ t ∷ []) ++ m)
front_in [] [] x y t e l = absurd (omega arith)
front_in [] (c ∷ b) x y t e l = (b, (let f : t ≡ c = cc in cc))
front_in (c ∷ a) [] x y t e l = absurd (omega arith)
front_in (c ∷ a) (d ∷ b) x y t e l = let p = front_in a b x y t (cc) (omega arith) in (p.0, (let p1 = p.1 in let f : c ≡ d = cc in cc))

earlier : (a b x y : List Token) (t : Token) → a ++ (t ∷ x) ≡ b ++ y → length a < length b → (Beginning (a ++ t ∷ []) → ⊥) → Beginning b → ⊥
earlier a b x y t e l n p = let w = front_in a b x y t e l in n (begins_front grammar (a ++ t ∷ []) w.0 (subst (λ z. Beginning z) w.1 p))

-- no longer front begins a source
stopped : (ts left : List Token) (n : ℕ) → Stopping ts left → length ts - length left < n → n ≤ length ts → Beginning (take n ts) → ⊥
stopped ts _ n (at_end p q) l h b = omega arith
stopped ts _ n (at_token a x t e b m) l h c =
    let long : length ts ≡ length a + suc (length x) = ap length e ∙ length-append a (t ∷ x) in
    earlier a (take n ts) x (drop n ts) t (sym e ∙ sym (take-append-drop n ts)) (omega (arith, long, length-take n ts)) m c

within_less : (n i : ℕ) (ts : List Token) → n ≤ i → StaysWithin (take i ts) → StaysWithin (take n ts)
within_less n i ts l s k le =
    let e : take k (take n ts) ≡ take k (take i ts) = take-take k n ts (omega (arith, length-take n ts)) ∙ sym (take-take k i ts (omega (arith, length-take n ts))) in
    rw e (s k (omega (arith, length-take n ts, length-take i ts)))

within_front : (n : ℕ) (ts : List Token) → StaysWithin ts → StaysWithin (take n ts)
within_front n ts s k le = rw (take-take k n ts (omega (arith, length-take n ts))) (s k (omega (arith, length-take n ts)))

deep_not_within : (ts : List Token) (i n : ℕ) → IsFirstTooDeep ts i → i < n → StaysWithin (take n ts) → ⊥
deep_not_within ts i n p l s =
    let q : IsWithin (depth_after (take (i + 1) (take n ts))) = s (i + 1) (omega (arith, p.within, length-take n ts)) in
    p.passes (subst (λ z. IsWithin (depth_after z)) (take-take (i + 1) n ts (omega arith)) q)

deep_once : (ts : List Token) (i j : ℕ) → IsFirstTooDeep ts i → IsFirstTooDeep ts j → i ≡ j
deep_once ts i j p q = elim (cases_order i j) [
  | inl e ↦ e
  | inr h ↦ elim h [ inl l ↦ absurd (deep_not_within ts i j p l q.before) | inr l ↦ absurd (deep_not_within ts j i q l p.before) ]
]

-- No two judgements hold.

pub one_wrong : (ts l m : List Token) → IsWrongAt ts l → IsWrongAt ts m → l ≡ m
one_wrong ts l m p q = stops_once grammar (Non rules.Source) ts l m p.stops q.stops

pub one_too_deep : (ts : List Token) (i j : ℕ) → IsTooDeepAt ts i → IsTooDeepAt ts j → i ≡ j
one_too_deep ts i j p q = deep_once ts i j p.first q.first

pub good_not_wrong : (ts l : List Token) → IsGood ts → IsWrongAt ts l → ⊥
good_not_wrong ts l p q = never_stops grammar ts l p.fits q.stops

pub good_not_too_deep : (ts : List Token) (i : ℕ) → IsGood ts → IsTooDeepAt ts i → ⊥
good_not_too_deep ts i p q = deep_not_within ts i (i + 1) q.first (omega arith) (within_front (i + 1) ts p.within)

pub wrong_not_too_deep : (ts l : List Token) (i : ℕ) → IsWrongAt ts l → IsTooDeepAt ts i → ⊥
wrong_not_too_deep ts l i p q = elim (cases_lt i (length ts - length l)) [
  | inl h ↦ deep_not_within ts i (length ts - length l) q.first h p.within
  | inr h ↦ stopped ts l (i + 1) p.stops (omega arith) (omega (arith, q.first.within)) q.begins
]

-- What a parser concludes.

-- from all of the list
pub wrong_whole : (ts left : List Token) → StaysWithin ts → Stopping ts left → IsWrongAt ts left
wrong_whole ts left s p = record { stops = p; within = within_front (length ts - length left) ts s }

stops_longer : (cut ts left rest : List Token) → Stopping cut left → 0 < length left → ts ≡ cut ++ rest → Stopping ts (left ++ rest)
stops_longer cut ts _ rest (at_end p q) l g = absurd (omega arith)
stops_longer cut ts _ rest (at_token a x t h b n) l g = at_token {ts = ts} a (x ++ rest) t (g ∙ (ap (λ z. z ++ rest) h ∙ append_assoc a (t ∷ x) rest)) b n

-- from the list up to and with a token that nests too deep
pub wrong_cut : (ts left : List Token) (i : ℕ) → IsFirstTooDeep ts i → Stopping (take (i + 1) ts) left → 0 < length left → IsWrongAt ts (left ++ drop (i + 1) ts)
wrong_cut ts left i d p l =
    let size : length (left ++ drop (i + 1) ts) ≡ length left + (length ts - (i + 1)) = omega (arith, length-append left (drop (i + 1) ts), length-drop (i + 1) ts) in
    record {
      stops = stops_longer (take (i + 1) ts) ts left (drop (i + 1) ts) p l (sym (take-append-drop (i + 1) ts));
      within = within_less (length ts - length (left ++ drop (i + 1) ts)) i ts (omega (arith, size, d.within)) d.before;
    }

pub too_deep_fits : (ts : List Token) (i : ℕ) → IsFirstTooDeep ts i → Fits grammar (Non rules.Source) (take (i + 1) ts) → IsTooDeepAt ts i
too_deep_fits ts i d p = record { first = d; begins = fits_begins grammar p }

pub too_deep_stops : (ts left : List Token) (i : ℕ) → IsFirstTooDeep ts i → Stopping (take (i + 1) ts) left → length left ≡ 0 → IsTooDeepAt ts i
too_deep_stops ts _ i d (at_end b n) l = record { first = d; begins = b }
too_deep_stops ts _ i d (at_token a x t e b n) l = absurd (omega (arith, l))

pub place_in : (left rest : List Token) (end : Place) → 0 < length left → place_of left end ≡ place_of (left ++ rest) end
place_in [] rest end l = absurd (omega arith)
place_in (t ∷ ts) rest end l = refl

pub rule_in : (left rest : List Token) → 0 < length left → rule_of left ≡ rule_of (left ++ rest)
rule_in [] rest l = absurd (omega arith)
rule_in (t ∷ ts) rest l = refl

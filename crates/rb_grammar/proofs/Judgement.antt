-- A list of tokens is good, wrong at one place, or too deep at one place, and no two of these.
use Rattle.std.proofs.Common.{◌≡◌, ℕ, suc, ◌+◌, ◌-◌, ◌<◌, ◌≤◌, List, [], ◌∷◌, ◌++◌, length, take, drop, refl, ap, sym, ◌∙◌, arith, inl, inr, append_assoc, subst, length-append, length-take, length-drop, take-append-drop}
use Rattle.std.proofs.lemmas.List.{take-take}
use Rattle.std.proofs.lemmas.Bool.{cases_order, cases_lt}
use Rattle.rb_grammar.specs.declared.nesting.Nesting.{Nesting}
use Rattle.rb_grammar.specs.Forms.{Form, Grammar, Fits, Begins, StopsAt, at_token, at_end}
use Rattle.rb_grammar.specs.Brackets.{StaysWithin, IsFirstTooDeep, open_after}
use Rattle.rb_grammar.specs.Judging.{IsGood, IsWrongAt, IsTooDeepAt}
use Rattle.rb_grammar.proofs.Bridge.{begins_front, fits_begins, never_stops}

module _ {T N K : Type 0} (G : Grammar T N K) where
  -- A list stops at one place.

  -- the front before a token, with that token, is a front of every longer one
  front_in : (a b x y : List K) (t : K) → a ++ (t ∷ x) ≡ b ++ y → length a < length b → (m : List K) × (b ≡ (a ++ t ∷ []) ++ m)
  front_in [] [] x y t e l = absurd (omega arith)
  front_in [] (c ∷ b) x y t e l = (b, (let f : t ≡ c = cc in cc))
  front_in (c ∷ a) [] x y t e l = absurd (omega arith)
  front_in (c ∷ a) (d ∷ b) x y t e l = let p = front_in a b x y t (cc) (omega arith) in (p.0, (let p1 = p.1 in let f : c ≡ d = cc in cc))

  same_front : (a b x y : List K) → a ++ x ≡ b ++ y → length a ≡ length b → x ≡ y
  same_front [] [] x y e l = e
  same_front [] (d ∷ b) x y e l = absurd (omega (arith, l))
  same_front (c ∷ a) [] x y e l = absurd (omega (arith, l))
  same_front (c ∷ a) (d ∷ b) x y e l = same_front a b x y (cc) (omega (arith, l))

  earlier : {f : Form T N} (a b x y : List K) (t : K) → a ++ (t ∷ x) ≡ b ++ y → length a < length b → (Begins G f (a ++ t ∷ []) → ⊥) → Begins G f b → ⊥
  earlier {f = f} a b x y t e l n p = let w = front_in a b x y t e l in n (begins_front G (a ++ t ∷ []) w.0 (subst (λ z. Begins G f z) w.1 p))

  pub stops_once : (f : Form T N) (ts l m : List K) → StopsAt G f ts l → StopsAt G f ts m → l ≡ m
  stops_once f ts _ _ (at_end p q) (at_end r s) = refl
  stops_once f ts _ _ (at_end p q) (at_token a x t e b n) = absurd (n (begins_front G (a ++ t ∷ []) x (subst (λ z. Begins G f z) (e ∙ sym (append_assoc a (t ∷ []) x)) p)))
  stops_once f ts _ _ (at_token a x t e b n) (at_end p q) = absurd (n (begins_front G (a ++ t ∷ []) x (subst (λ z. Begins G f z) (e ∙ sym (append_assoc a (t ∷ []) x)) p)))
  stops_once f ts _ _ (at_token a x t e b n) (at_token c y u g d m) = elim (cases_order (length a) (length c)) [
    | inl h ↦ same_front a c (t ∷ x) (u ∷ y) (sym e ∙ g) h
    | inr h ↦ elim h [
      | inl l ↦ absurd (earlier a c x (u ∷ y) t (sym e ∙ g) l n d)
      | inr l ↦ absurd (earlier c a y (t ∷ x) u (sym g ∙ e) l m b)
    ]
  ]

  -- No longer front begins the form.
  stopped : (f : Form T N) (ts left : List K) (n : ℕ) → StopsAt G f ts left → length ts - length left < n → n ≤ length ts → Begins G f (take n ts) → ⊥
  stopped f ts _ n (at_end p q) l h b = omega arith
  stopped f ts _ n (at_token a x t e b m) l h c =
      let long : length ts ≡ length a + suc (length x) = ap length e ∙ length-append a (t ∷ x) in
      earlier a (take n ts) x (drop n ts) t (sym e ∙ sym (take-append-drop n ts)) (omega (arith, long, length-take n ts)) m c

module _ {K : Type 0} (nesting : K → Nesting) (most : ℕ) where
  within_less : (n i : ℕ) (ts : List K) → n ≤ i → StaysWithin nesting most (take i ts) → StaysWithin nesting most (take n ts)
  within_less n i ts l s k le =
      let e : take k (take n ts) ≡ take k (take i ts) = take-take k n ts (omega (arith, length-take n ts)) ∙ sym (take-take k i ts (omega (arith, length-take n ts))) in
      rw e (s k (omega (arith, length-take n ts, length-take i ts)))

  within_front : (n : ℕ) (ts : List K) → StaysWithin nesting most ts → StaysWithin nesting most (take n ts)
  within_front n ts s k le = rw (take-take k n ts (omega (arith, length-take n ts))) (s k (omega (arith, length-take n ts)))

  deep_not_within : (ts : List K) (i n : ℕ) → IsFirstTooDeep nesting most ts i → i < n → StaysWithin nesting most (take n ts) → ⊥
  deep_not_within ts i n p l s =
      let q : open_after nesting (take (i + 1) (take n ts)) ≤ most = s (i + 1) (omega (arith, p.within, length-take n ts)) in
      let r : open_after nesting (take (i + 1) ts) ≤ most = subst (λ z. open_after nesting z ≤ most) (take-take (i + 1) n ts (omega arith)) q in
      omega (arith, p.passes, r)

  deep_once : (ts : List K) (i j : ℕ) → IsFirstTooDeep nesting most ts i → IsFirstTooDeep nesting most ts j → i ≡ j
  deep_once ts i j p q = elim (cases_order i j) [
    | inl e ↦ e
    | inr h ↦ elim h [ inl l ↦ absurd (deep_not_within ts i j p l q.before) | inr l ↦ absurd (deep_not_within ts j i q l p.before) ]
  ]

module _ {T N K : Type 0} (G : Grammar T N K) (nesting : K → Nesting) (most : ℕ) (f : Form T N) where
  -- No two judgements hold.

  pub one_wrong : (ts l m : List K) → IsWrongAt G nesting most f ts l → IsWrongAt G nesting most f ts m → l ≡ m
  one_wrong ts l m p q = stops_once G f ts l m p.stops q.stops

  pub one_too_deep : (ts : List K) (i j : ℕ) → IsTooDeepAt G nesting most f ts i → IsTooDeepAt G nesting most f ts j → i ≡ j
  one_too_deep ts i j p q = deep_once nesting most ts i j p.first q.first

  pub good_not_wrong : (ts l : List K) → IsGood G nesting most f ts → IsWrongAt G nesting most f ts l → ⊥
  good_not_wrong ts l p q = never_stops G ts l p.fits q.stops

  pub good_not_too_deep : (ts : List K) (i : ℕ) → IsGood G nesting most f ts → IsTooDeepAt G nesting most f ts i → ⊥
  good_not_too_deep ts i p q = deep_not_within nesting most ts i (i + 1) q.first (omega arith) (within_front nesting most (i + 1) ts p.within)

  pub wrong_not_too_deep : (ts l : List K) (i : ℕ) → IsWrongAt G nesting most f ts l → IsTooDeepAt G nesting most f ts i → ⊥
  wrong_not_too_deep ts l i p q = elim (cases_lt i (length ts - length l)) [
    | inl h ↦ deep_not_within nesting most ts i (length ts - length l) q.first h p.within
    | inr h ↦ stopped G f ts l (i + 1) p.stops (omega arith) (omega (arith, q.first.within)) q.begins
  ]

  -- What a parser concludes.

  -- from all of the list
  pub good_whole : (ts : List K) → StaysWithin nesting most ts → Fits G f ts → IsGood G nesting most f ts
  good_whole ts s p = record { fits = p; within = s }

  pub wrong_whole : (ts left : List K) → StaysWithin nesting most ts → StopsAt G f ts left → IsWrongAt G nesting most f ts left
  wrong_whole ts left s p = record { stops = p; within = within_front nesting most (length ts - length left) ts s }

  stops_longer : (cut ts left rest : List K) → StopsAt G f cut left → 0 < length left → ts ≡ cut ++ rest → StopsAt G f ts (left ++ rest)
  stops_longer cut ts _ rest (at_end p q) l g = absurd (omega arith)
  stops_longer cut ts _ rest (at_token a x t h b n) l g =
      at_token {ts = ts} a (x ++ rest) t (g ∙ (ap (λ z. z ++ rest) h ∙ append_assoc a (t ∷ x) rest)) b n

  -- from the list up to and with a bracket that is nested too deep
  pub wrong_cut : (ts left : List K) (i : ℕ) → IsFirstTooDeep nesting most ts i → StopsAt G f (take (i + 1) ts) left → 0 < length left → IsWrongAt G nesting most f ts (left ++ drop (i + 1) ts)
  wrong_cut ts left i d p l =
      let size : length (left ++ drop (i + 1) ts) ≡ length left + (length ts - (i + 1)) = omega (arith, length-append left (drop (i + 1) ts), length-drop (i + 1) ts) in
      record {
        stops = stops_longer (take (i + 1) ts) ts left (drop (i + 1) ts) p l (sym (take-append-drop (i + 1) ts));
        within = within_less nesting most (length ts - length (left ++ drop (i + 1) ts)) i ts (omega (arith, size, d.within)) d.before;
      }

  pub too_deep_fits : (ts : List K) (i : ℕ) → IsFirstTooDeep nesting most ts i → Fits G f (take (i + 1) ts) → IsTooDeepAt G nesting most f ts i
  too_deep_fits ts i d p = record { first = d; begins = fits_begins G p }

  pub too_deep_stops : (ts left : List K) (i : ℕ) → IsFirstTooDeep nesting most ts i → StopsAt G f (take (i + 1) ts) left → length left ≡ 0 → IsTooDeepAt G nesting most f ts i
  too_deep_stops ts _ i d (at_end b n) l = record { first = d; begins = b }
  too_deep_stops ts _ i d (at_token a x t e b n) l = absurd (omega (arith, l))

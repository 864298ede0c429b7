-- The last values after one more change.
use Rattle.std.specs.List.{position, prefix_len, list_any}
use Rattle.std.specs.Option.{option_or}
use Rattle.std.specs.Str.{bytes_eq}
use Rattle.std.specs.Cmp.Lexicographic.{bytes_decides}
use Rattle.std.specs.Prelude.{if◌then◌else◌}
use Rattle.std.proofs.Common.{◌≡◌, ℕ, suc, ◌+◌, ◌<◌, Bool, true, false, not, cond, nat_lt, Some, None, List, [], ◌∷◌, ◌++◌, length, map, set, refl, ap, sym, ◌∙◌, subst, arith}
use Rattle.std.proofs.lemmas.Bool.{or_parts, both_ways, false_from_ne_true}
use Rattle.std.proofs.lemmas.List.{map-append}
use Rattle.std.proofs.lemmas.Bool.Decides.{nat_tests}
use Rattle.v_design.specs.Lexemes.{among}
use Rattle.vcd_syntax.specs.Meaning.{Event, Comes, Gives, last_given}
use Rattle.vcd_syntax.specs.Known.{AreApart, AreGiven}
use Rattle.vcd_syntax.proofs.Saying.{last_given-append}

-- the number at which a test passes first
place_is : {X : Type 0} (p : X → Bool) (xs : List X) (i : ℕ) → position p xs ≡ Some i → prefix_len (λ x. not (p x)) xs ≡ i
place_is p xs i e = at (nat_lt (prefix_len (λ x. not (p x)) xs) (length xs)) e
  where
    at : (b : Bool) → cond b (Some (prefix_len (λ x. not (p x)) xs)) None ≡ Some i → prefix_len (λ x. not (p x)) xs ≡ i
    at true f = cc
    at false f = cc

place_within : {X : Type 0} (p : X → Bool) (xs : List X) (i : ℕ) → position p xs ≡ Some i → i < length xs
place_within p xs i e = at (nat_lt (prefix_len (λ x. not (p x)) xs) (length xs)) refl e
  where
    at : (b : Bool) → nat_lt (prefix_len (λ x. not (p x)) xs) (length xs) ≡ b → cond b (Some (prefix_len (λ x. not (p x)) xs)) None ≡ Some i → i < length xs
    at true f g = let same : prefix_len (λ x. not (p x)) xs ≡ i = cc in grind (arith, nat_tests)
    at false f g = cc

one_given : (es : List Event) (c d : List ℕ) (v : ℕ) (b : Bool) → bytes_eq c d ≡ b → last_given (es ++ (Gives c v ∷ [])) d ≡ cond b (Some v) (last_given es d)
one_given es c d v true e = last_given-append es (Gives c v ∷ []) d ∙ ap (λ z. option_or (if z then Some v else None) (last_given es d)) e
one_given es c d v false e = last_given-append es (Gives c v ∷ []) d ∙ ap (λ z. option_or (if z then Some v else None) (last_given es d)) e

none_given : (es : List Event) (c : List ℕ) (v : ℕ) (cs : List (List ℕ)) → list_any (bytes_eq c) cs ≡ false → map (last_given (es ++ (Gives c v ∷ []))) cs ≡ map (last_given es) cs
none_given es c v [] h = refl
none_given es c v (d ∷ cs) h =
    let p = or_parts (bytes_eq c d) (list_any (bytes_eq c) cs) h in
    ap (λ z. z ∷ map (last_given (es ++ (Gives c v ∷ []))) cs) (one_given es c d v false p.0) ∙ ap (λ z. last_given es d ∷ z) (none_given es c v cs p.1)

-- of codes that differ, the one that is given a value has it, and the others keep theirs
pub given : (es : List Event) (c : List ℕ) (v : ℕ) (cs : List (List ℕ)) (i : ℕ) → AreApart cs → prefix_len (λ d. not (bytes_eq c d)) cs ≡ i → i < length cs → map (last_given (es ++ (Gives c v ∷ []))) cs ≡ set (map (last_given es) cs) i (Some v)
given es c v [] i h e l = absurd (omega arith)
given es c v (d ∷ cs) i h e l = at (bytes_eq c d) refl (given es c v cs)
  where
    at : (b : Bool) → bytes_eq c d ≡ b → ((j : ℕ) → AreApart cs → prefix_len (λ d. not (bytes_eq c d)) cs ≡ j → j < length cs → map (last_given (es ++ (Gives c v ∷ []))) cs ≡ set (map (last_given es) cs) j (Some v))
        → map (last_given (es ++ (Gives c v ∷ []))) (d ∷ cs) ≡ set (map (last_given es) (d ∷ cs)) i (Some v)
    at true f ih =
        let zero_is : i ≡ 0 = sym e ∙ ap (λ z. cond (not z) (1 + prefix_len (λ d. not (bytes_eq c d)) cs) 0) f in
        let same : c ≡ d = (bytes_decides c d).0 f in
        let rest : list_any (bytes_eq c) cs ≡ false = subst (λ z. list_any (bytes_eq z) cs ≡ false) (sym same) h.0 in
        ap (λ z. z ∷ map (last_given (es ++ (Gives c v ∷ []))) cs) (one_given es c d v true f)
        ∙ (ap (λ z. Some v ∷ z) (none_given es c v cs rest) ∙ ap (λ n. set (last_given es d ∷ map (last_given es) cs) n (Some v)) (sym zero_is))
    at false f ih =
        let more : i ≡ 1 + prefix_len (λ d. not (bytes_eq c d)) cs = sym e ∙ ap (λ z. cond (not z) (1 + prefix_len (λ d. not (bytes_eq c d)) cs) 0) f in
        let j = prefix_len (λ d. not (bytes_eq c d)) cs in
        let next : suc j ≡ i = omega (arith, more) in
        ap (λ z. z ∷ map (last_given (es ++ (Gives c v ∷ []))) cs) (one_given es c d v false f)
        ∙ (ap (λ z. last_given es d ∷ z) (ih j h.1 refl (omega (arith, l, more))) ∙ ap (λ n. set (last_given es d ∷ map (last_given es) cs) n (Some v)) next)

-- the same, by the place of the code
pub given_at : (es : List Event) (c : List ℕ) (v : ℕ) (cs : List (List ℕ)) (i : ℕ) → AreApart cs → position (bytes_eq c) cs ≡ Some i → map (last_given (es ++ (Gives c v ∷ []))) cs ≡ set (map (last_given es) cs) i (Some v)
given_at es c v cs i h e = given es c v cs i h (place_is (bytes_eq c) cs i e) (place_within (bytes_eq c) cs i e)

-- what was given no value has none yet
none_yet : (es : List Event) (cs : List (List ℕ)) (w : List ℕ) → AreGiven es cs → among cs w ≡ false → last_given es w ≡ None
none_yet [] cs w g n = refl
none_yet (Comes t ∷ es) cs w g n = none_yet es cs w g n
none_yet (Gives c x ∷ es) cs w g n =
    let other : bytes_eq c w ≡ false = false_from_ne_true (bytes_eq c w) (λ t. both_ways (among cs w) n (subst (λ z. among cs z ≡ true) ((bytes_decides c w).0 t) g.0)) in
    ap (λ o. option_or o (if bytes_eq c w then Some x else None)) (none_yet es cs w g.1 n) ∙ ap (λ b. if b then Some x else None) other

-- A new variable has no value.
pub declared : (es : List Event) (cs : List (List ℕ)) (w : List ℕ) → AreGiven es cs → among cs w ≡ false → map (last_given es) (cs ++ (w ∷ [])) ≡ map (last_given es) cs ++ (None ∷ [])
declared es cs w g n = map-append (last_given es) cs (w ∷ []) ∙ ap (λ o. map (last_given es) cs ++ (o ∷ [])) (none_yet es cs w g n)

-- A time changes no value.
pub timed : (es : List Event) (t : ℕ) (cs : List (List ℕ)) → map (last_given (es ++ (Comes t ∷ []))) cs ≡ map (last_given es) cs
timed es t [] = refl
timed es t (c ∷ cs) = ap (λ z. z ∷ map (last_given (es ++ (Comes t ∷ []))) cs) (last_given-append es (Comes t ∷ []) c) ∙ ap (λ z. last_given es c ∷ z) (timed es t cs)

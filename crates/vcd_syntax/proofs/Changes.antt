-- The changes of an edge: each is fine, and after them each pin's last value is that of the edge.
use Rattle.std.specs.List.{position, list_all}
use Rattle.std.specs.Str.{bytes_eq}
use Rattle.std.specs.Str.Parse.{digits_value}
use Rattle.std.specs.Prelude.{◌==◌, if◌then◌else◌, slice_get, option_and_then}
use Rattle.std.proofs.Common.{◌≡◌, ℕ, ◌+◌, ◌^◌, ◌<◌, ◌≤◌, Bool, true, false, Some, List, [], ◌∷◌, ◌++◌, codes, length, refl, ap, sym, ◌∙◌, subst, arith, append_assoc, append-nil}
use Rattle.std.proofs.Math.Nat.{pow-le-pow_right}
use Rattle.std.proofs.lemmas.Bool.Decides.{nat_tests}
use Rattle.rb_base.specs.declared.ports.Pin.{Pin}
use Rattle.v_design.specs.Lexemes.{among}
use Rattle.v_design.specs.Fits.{FitsPins}
use Rattle.vcd_syntax.specs.declared.kind.Kind.TheVariants as kind
use Rattle.vcd_syntax.specs.Meaning.{Event, Gives}
use Rattle.vcd_syntax.specs.Faulty.{is_known_bit}
use Rattle.vcd_syntax.specs.Dump.{code, binary}
use Rattle.vcd_syntax.proofs.Numerals.{binary_value, binary_known}
use Rattle.vcd_syntax.proofs.Marking.{Spoken, change_spoken, all_spoken, changed_spoken}
use Rattle.vcd_syntax.proofs.Fine.{after_spoken, AllFine, fine_append, after_append, known, AreNarrow}

-- what is known of the code of a pin: it is there, with its width
pub record Has (cs : List (List ℕ)) (ws : List ℕ) (c : List ℕ) (w : ℕ) : Type 0 where
  pub there : among cs c ≡ true
  pub width : option_and_then (λ i. slice_get ws i) (position (bytes_eq c) cs) ≡ Some w

-- the pins from k on, each with its code and its width
abbrev pub HasAll : List (List ℕ) → List ℕ → ℕ → List Pin → Type 0
HasAll cs ws k [] = Unit {0}
HasAll cs ws k (p ∷ ps) = Has cs ws (code k) p.width × HasAll cs ws (k + 1) ps

known_byte : (x : ℕ) → x < 2 → list_all is_known_bit ((48 + x) ∷ []) ≡ true
known_byte x l = grind (arith, nat_tests)

byte_value : (x : ℕ) → x < 2 → digits_value 2 ((48 + x) ∷ []) ≡ x
byte_value x l = grind (arith, nat_tests)

-- one change
change_fine : (cs ns : List (List ℕ)) (ws : List ℕ) (es : List Event) (v : List ℕ) (n w x : ℕ) → Has cs ws (code n) w → w ≤ 128 → x < 2 ^ w → AllFine (known cs ns ws es v) (change_spoken n w x)
change_fine cs ns ws es v n w x h l f = at (w == 1) refl
  where
    fit : (u : ℕ) → option_and_then (λ i. slice_get ws i) (position (bytes_eq (code n)) cs) ≡ Some u → u ≡ w
    fit u e = let both : Some u ≡ Some w = sym e ∙ h.width in cc

    at : (b : Bool) → (w == 1) ≡ b → AllFine (known cs ns ws es v) (if b then (kind.Scalar, (48 + x) ∷ code n) ∷ [] else (kind.Bits, codes "b" ++ binary x) ∷ (kind.Taker, code n) ∷ [])
    at true e =
        let one : w ≡ 1 = grind (arith, nat_tests) in
        let small : x < 2 = subst (λ z. x < 2 ^ z) one f in
        ((h.there, known_byte x small, λ u g. omega (arith, fit u g, one)), tt)
    at false e =
        let wide : 2 ^ w ≤ 2 ^ 128 = pow-le-pow_right (omega arith) l in
        (binary_known x, ((h.there, λ u g. subst (λ z. z < 2 ^ u) (sym (binary_value x (omega (arith, wide, f)))) (subst (λ z. x < 2 ^ z) (sym (fit u g)) f)), tt))

change_known : (cs ns : List (List ℕ)) (ws : List ℕ) (es : List Event) (v : List ℕ) (n w x : ℕ) → w ≤ 128 → x < 2 ^ w
    → (u : List ℕ) × (after_spoken (known cs ns ws es v) (change_spoken n w x) ≡ known cs ns ws (es ++ Gives (code n) x ∷ []) u)
change_known cs ns ws es v n w x l f = at (w == 1) refl
  where
    at : (b : Bool) → (w == 1) ≡ b → (u : List ℕ) × (after_spoken (known cs ns ws es v) (if b then (kind.Scalar, (48 + x) ∷ code n) ∷ [] else (kind.Bits, codes "b" ++ binary x) ∷ (kind.Taker, code n) ∷ []) ≡ known cs ns ws (es ++ Gives (code n) x ∷ []) u)
    at true e =
        let one : w ≡ 1 = grind (arith, nat_tests) in
        let small : x < 2 = subst (λ z. x < 2 ^ z) one f in
        ((48 + x) ∷ code n, ap (λ z. known cs ns ws (es ++ Gives (code n) z ∷ []) ((48 + x) ∷ code n)) (byte_value x small))
    at false e =
        let wide : 2 ^ w ≤ 2 ^ 128 = pow-le-pow_right (omega arith) l in
        (code n, ap (λ z. known cs ns ws (es ++ Gives (code n) z ∷ []) (code n)) (binary_value x (omega (arith, wide, f))))

-- what the changes of an edge say
abbrev pub all_events : ℕ → List Pin → List ℕ → List Event
all_events k (p ∷ ps) (x ∷ xs) = Gives (code k) x ∷ all_events (k + 1) ps xs
all_events k _ _ = []

abbrev pub changed_events : ℕ → List Pin → (before now : List ℕ) → List Event
changed_events k (p ∷ ps) (x ∷ xs) (y ∷ ys) = (if x == y then [] else Gives (code k) y ∷ []) ++ changed_events (k + 1) ps xs ys
changed_events k _ _ _ = []

-- all of them
pub all_fine : (cs ns : List (List ℕ)) (ws : List ℕ) (es : List Event) (v : List ℕ) (k : ℕ) (ps : List Pin) (xs : List ℕ) → HasAll cs ws k ps → AreNarrow ps → FitsPins ps xs → AllFine (known cs ns ws es v) (all_spoken k ps xs)
all_fine cs ns ws es v k [] [] h n f = tt
all_fine cs ns ws es v k [] (x ∷ xs) h n f = tt
all_fine cs ns ws es v k (p ∷ ps) [] h n f = tt
all_fine cs ns ws es v k (p ∷ ps) (x ∷ xs) h n f =
    let c = change_known cs ns ws es v k p.width x n.0 f.0 in
    fine_append (known cs ns ws es v) (change_spoken k p.width x) (all_spoken (k + 1) ps xs) (change_fine cs ns ws es v k p.width x h.0 n.0 f.0)
    (subst (λ z. AllFine z (all_spoken (k + 1) ps xs)) (sym c.1) (all_fine cs ns ws (es ++ Gives (code k) x ∷ []) c.0 (k + 1) ps xs h.1 n.1 f.1))

pub all_known : (cs ns : List (List ℕ)) (ws : List ℕ) (es : List Event) (v : List ℕ) (k : ℕ) (ps : List Pin) (xs : List ℕ) → AreNarrow ps → FitsPins ps xs
    → (u : List ℕ) × (after_spoken (known cs ns ws es v) (all_spoken k ps xs) ≡ known cs ns ws (es ++ all_events k ps xs) u)
all_known cs ns ws es v k [] [] n f = (v, ap (λ z. known cs ns ws z v) (sym (append-nil es)))
all_known cs ns ws es v k [] (x ∷ xs) n f = absurd f
all_known cs ns ws es v k (p ∷ ps) [] n f = absurd f
all_known cs ns ws es v k (p ∷ ps) (x ∷ xs) n f =
    let c = change_known cs ns ws es v k p.width x n.0 f.0 in
    let r = all_known cs ns ws (es ++ Gives (code k) x ∷ []) c.0 (k + 1) ps xs n.1 f.1 in
    (r.0, after_append (known cs ns ws es v) (change_spoken k p.width x) (all_spoken (k + 1) ps xs) ∙ (ap (λ z. after_spoken z (all_spoken (k + 1) ps xs)) c.1 ∙ (r.1 ∙ ap (λ z. known cs ns ws z r.0) (append_assoc es (Gives (code k) x ∷ []) (all_events (k + 1) ps xs)))))

-- those that changed
changed_at : (b : Bool) (k : ℕ) (p : Pin) (y : ℕ) → Spoken
changed_at b k p y = if b then [] else change_spoken k p.width y

pub changed_fine : (cs ns : List (List ℕ)) (ws : List ℕ) (es : List Event) (v : List ℕ) (k : ℕ) (ps : List Pin) (xs ys : List ℕ) → HasAll cs ws k ps → AreNarrow ps → FitsPins ps ys → AllFine (known cs ns ws es v) (changed_spoken k ps xs ys)
changed_fine cs ns ws es v k [] xs ys h n f = tt
changed_fine cs ns ws es v k (p ∷ ps) [] ys h n f = tt
changed_fine cs ns ws es v k (p ∷ ps) (x ∷ xs) [] h n f = tt
changed_fine cs ns ws es v k (p ∷ ps) (x ∷ xs) (y ∷ ys) h n f = at (x == y) (λ fs u. changed_fine cs ns ws fs u (k + 1) ps xs ys h.1 n.1 f.1)
  where
    at : (b : Bool) → ((fs : List Event) (u : List ℕ) → AllFine (known cs ns ws fs u) (changed_spoken (k + 1) ps xs ys)) → AllFine (known cs ns ws es v) ((if b then [] else change_spoken k p.width y) ++ changed_spoken (k + 1) ps xs ys)
    at true ih = ih es v
    at false ih =
        let c = change_known cs ns ws es v k p.width y n.0 f.0 in
        fine_append (known cs ns ws es v) (change_spoken k p.width y) (changed_spoken (k + 1) ps xs ys) (change_fine cs ns ws es v k p.width y h.0 n.0 f.0) (subst (λ z. AllFine z (changed_spoken (k + 1) ps xs ys)) (sym c.1) (ih (es ++ Gives (code k) y ∷ []) c.0))

pub changed_known : (cs ns : List (List ℕ)) (ws : List ℕ) (es : List Event) (v : List ℕ) (k : ℕ) (ps : List Pin) (xs ys : List ℕ) → AreNarrow ps → FitsPins ps ys → length xs ≡ length ps
    → (u : List ℕ) × (after_spoken (known cs ns ws es v) (changed_spoken k ps xs ys) ≡ known cs ns ws (es ++ changed_events k ps xs ys) u)
changed_known cs ns ws es v k [] xs ys n f l = (v, ap (λ z. known cs ns ws z v) (sym (append-nil es)))
changed_known cs ns ws es v k (p ∷ ps) [] ys n f l = absurd (omega arith)
changed_known cs ns ws es v k (p ∷ ps) (x ∷ xs) [] n f l = absurd f
changed_known cs ns ws es v k (p ∷ ps) (x ∷ xs) (y ∷ ys) n f l = at (x == y) (λ fs u. changed_known cs ns ws fs u (k + 1) ps xs ys n.1 f.1 (omega (arith, l)))
  where
    at : (b : Bool) → ((fs : List Event) (u : List ℕ) → (t : List ℕ) × (after_spoken (known cs ns ws fs u) (changed_spoken (k + 1) ps xs ys) ≡ known cs ns ws (fs ++ changed_events (k + 1) ps xs ys) t))
        → (t : List ℕ) × (after_spoken (known cs ns ws es v) ((if b then [] else change_spoken k p.width y) ++ changed_spoken (k + 1) ps xs ys) ≡ known cs ns ws (es ++ ((if b then [] else Gives (code k) y ∷ []) ++ changed_events (k + 1) ps xs ys)) t)
    at true ih = ih es v
    at false ih =
        let c = change_known cs ns ws es v k p.width y n.0 f.0 in
        let r = ih (es ++ Gives (code k) y ∷ []) c.0 in
        (r.0, after_append (known cs ns ws es v) (change_spoken k p.width y) (changed_spoken (k + 1) ps xs ys) ∙ (ap (λ z. after_spoken z (changed_spoken (k + 1) ps xs ys)) c.1 ∙ (r.1 ∙ ap (λ z. known cs ns ws z r.0) (append_assoc es (Gives (code k) y ∷ []) (changed_events (k + 1) ps xs ys)))))

-- The numbers of short codes at their places.
use Rattle.std.specs.List.{list_all, list_any, position, position_or_len}
use Rattle.std.specs.Str.{bytes_eq}
use Rattle.std.proofs.Common.{◌≡◌, ℕ, ◌+◌, ◌<◌, ◌≤◌, Bool, true, false, nat_lt, eqb, cond, if◌then◌else◌, Option, Some, None, IfSome, List, [], ◌∷◌, ◌++◌, length, get_or, refl, ap, sym, ◌∙◌, subst, arith, inl, inr, ◌⊎◌, length-append}
use Rattle.std.proofs.lemmas.List.Folds.{position_or_len_push}
use Rattle.std.proofs.lemmas.Bool.Decides.{nat_tests}
use Rattle.plain_lemmas.proofs.Bools.{and-both, or-neither, not-of_false}
use Rattle.plain_lemmas.proofs.Lists.{bytes_eq-itself}
use Rattle.v_design.specs.Lexemes.{among}
use Rattle.vcd_syntax.specs.Words.{is_code, is_code_byte}
use Rattle.vcd_reader.specs.Codes.{code_key, ArePlaces, IsNoted}
use Rattle.vcd_reader.proofs.Sets.{any_is}

-- the byte of a code is 33 to 126
code_byte : (b : ℕ) → is_code_byte b ≡ true → (33 ≤ b) × (b ≤ 126)
code_byte b e = (grind (arith, nat_tests), grind (arith, nat_tests))

-- one key is of one code
one_key : (a b : List ℕ) → list_all is_code_byte a ≡ true → list_all is_code_byte b ≡ true → code_key a ≡ code_key b → a ≡ b
one_key [] [] e f h = refl
one_key [] (y ∷ ys) e f h = let low = code_byte y (and-both (is_code_byte y) (list_all is_code_byte ys) f).0 in absurd (omega (arith, h, low.0))
one_key (x ∷ xs) [] e f h = let low = code_byte x (and-both (is_code_byte x) (list_all is_code_byte xs) e).0 in absurd (omega (arith, h, low.0))
one_key (x ∷ xs) (y ∷ ys) e f h =
    let p = and-both (is_code_byte x) (list_all is_code_byte xs) e in
    let q = and-both (is_code_byte y) (list_all is_code_byte ys) f in
    let b = code_byte x p.0 in
    let c = code_byte y q.0 in
    let first : x ≡ y = omega (arith, h, b.0, b.1, c.0, c.1) in
    let rest : code_key xs ≡ code_key ys = omega (arith, h, b.0, b.1, c.0, c.1) in
    subst (λ z. x ∷ xs ≡ z ∷ ys) first (ap (λ zs. x ∷ zs) (one_key xs ys p.1 q.1 rest))

is_first : {X : Type 0} (p : X → Bool) (xs : List X) (n : ℕ) → position p xs ≡ Some n → (position_or_len p xs ≡ n) × (n < length xs)
is_first p xs n e = by (nat_lt (position_or_len p xs) (length xs)) refl
  where
    by : (b : Bool) → nat_lt (position_or_len p xs) (length xs) ≡ b → (position_or_len p xs ≡ n) × (n < length xs)
    by true l =
        let s : Some (position_or_len p xs) ≡ Some n = sym (ap (λ b. cond b (Some (position_or_len p xs)) None) l) ∙ e in
        let same : position_or_len p xs ≡ n = cc in
        (same, grind (arith, nat_tests))
    by false l = let s : None ≡ Some n = sym (ap (λ b. cond b (Some (position_or_len p xs)) None) l) ∙ e in cc

position_is : {X : Type 0} (p : X → Bool) (xs : List X) (n : ℕ) → position_or_len p xs ≡ n → n < length xs → position p xs ≡ Some n
position_is p xs n e l = let t : nat_lt n (length xs) ≡ true = grind (arith, nat_tests) in rw (e, t) refl

longer : {X : Type 0} (xs : List X) (y : X) → length (xs ++ (y ∷ [])) ≡ length xs + 1
longer xs y = length-append xs (y ∷ [])

-- a position stays where it is with one element more
stays : {X : Type 0} (p : X → Bool) (xs : List X) (y : X) (n : ℕ) → position p xs ≡ Some n → position p (xs ++ (y ∷ [])) ≡ Some n
stays p xs y n e =
    let h = is_first p xs n e in
    let t : eqb n (length xs) ≡ false = (let l = h.1 in grind (arith, nat_tests)) in
    let push : position_or_len p (xs ++ (y ∷ [])) ≡ cond (eqb n (length xs)) (length xs + cond (p y) 0 1) n = subst (λ m. position_or_len p (xs ++ (y ∷ [])) ≡ cond (eqb m (length xs)) (length xs + cond (p y) 0 1) m) h.0 (position_or_len_push p xs y) in
    position_is p (xs ++ (y ∷ [])) n (push ∙ ap (λ b. cond b (length xs + cond (p y) 0 1) n) t) (omega (arith, h.1, longer xs y))

none_passes : {X : Type 0} (p : X → Bool) (xs : List X) → list_any p xs ≡ false → position_or_len p xs ≡ length xs
none_passes p [] e = refl
none_passes p (x ∷ xs) e =
    let h = or-neither (p x) (list_any p xs) e in
    ap (λ b. cond b (1 + position_or_len p xs) 0) (not-of_false (p x) h.0) ∙ (ap (λ n. 1 + n) (none_passes p xs h.1) ∙ omega arith)

-- the last element is the first that passes
comes : {X : Type 0} (p : X → Bool) (xs : List X) (y : X) → list_any p xs ≡ false → p y ≡ true → position p (xs ++ (y ∷ [])) ≡ Some (length xs)
comes p xs y none passes =
    let h = none_passes p xs none in
    let t : eqb (length xs) (length xs) ≡ true = grind (arith, nat_tests) in
    let push : position_or_len p (xs ++ (y ∷ [])) ≡ cond (eqb (length xs) (length xs)) (length xs + cond (p y) 0 1) (length xs) = subst (λ m. position_or_len p (xs ++ (y ∷ [])) ≡ cond (eqb m (length xs)) (length xs + cond (p y) 0 1) m) h (position_or_len_push p xs y) in
    let here : cond (eqb (length xs) (length xs)) (length xs + cond (p y) 0 1) (length xs) ≡ length xs = ap (λ b. cond b (length xs + cond (p y) 0 1) (length xs)) t ∙ (ap (λ b. length xs + cond b 0 1) passes ∙ omega arith) in
    position_is p (xs ++ (y ∷ [])) (length xs) (push ∙ here) (omega (arith, longer xs y))

-- a code more, whose number is noted or isn't
pub places_more : (old new : List ℕ) (codes : List (List ℕ)) (code : List ℕ) → ArePlaces old codes → IsNoted old new code (length codes) → among codes code ≡ false → ArePlaces new (codes ++ (code ∷ []))
places_more old new codes code h noted fresh c n is e = by (noted (code_key c) n e)
  where
    by : (get_or old (code_key c) 0 ≡ n + 1) ⊎ ((list_all is_code_byte code ≡ true) × (code_key c ≡ code_key code) × (n ≡ length codes)) → position (bytes_eq c) (codes ++ (code ∷ [])) ≡ Some n
    by (inl f) = stays (bytes_eq c) codes code n (h c n is f)
    by (inr f) =
        let same : code ≡ c = one_key code c f.0 is (sym f.1) in
        subst (λ z. position (bytes_eq z) (codes ++ (code ∷ [])) ≡ Some n) same
        (comes (bytes_eq code) codes code (any_is codes code ∙ fresh) (bytes_eq-itself code) ∙ ap Some (sym f.2))

-- the same, of codes that may be there before
pub grown : (old new : List ℕ) (codes after : List (List ℕ)) (code : List ℕ) (again : Bool) (number : ℕ) → ArePlaces old codes → IsNoted old new code number → number ≡ length codes → again ≡ among codes code → again ≡ false
    → after ≡ (if again then codes else codes ++ (code ∷ [])) → ArePlaces new after
grown old new codes after code again number h noted is there f a =
    subst (ArePlaces new) (sym (a ∙ ap (λ b. if b then codes else codes ++ (code ∷ [])) f)) (places_more old new codes code h (subst (IsNoted old new code) is noted) (sym there ∙ f))

pub kept : (places : List ℕ) (codes after : List (List ℕ)) (code : List ℕ) (again : Bool) → ArePlaces places codes → again ≡ true → after ≡ (if again then codes else codes ++ (code ∷ [])) → ArePlaces places after
kept places codes after code again h t a = subst (ArePlaces places) (sym (a ∙ ap (λ b. if b then codes else codes ++ (code ∷ [])) t)) h

-- what a table has of a short code is its number
pub found : (places : List ℕ) (codes seen : List (List ℕ)) (code : List ℕ) (o : Option ℕ) → ArePlaces places codes → codes ≡ seen → IfSome o (λ n. is_code code ≡ true) → IfSome o (λ n. get_or places (code_key code) 0 ≡ n + 1) → IfSome o (λ n. position (bytes_eq code) seen ≡ Some n)
found places codes seen code None h e is there = tt
found places codes seen code (Some n) h e is there =
    let all = and-both (nat_lt 0 (length code)) (list_all is_code_byte code) is in
    sym (ap (position (bytes_eq code)) e) ∙ h code n all.1 there

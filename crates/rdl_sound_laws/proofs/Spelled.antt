-- Steps of words and small indices can be read back from their words.
use Rattle.std.proofs.Common.{◌≡◌, ◌≢◌, ◌∙◌, ℕ, ◌<◌, ◌≤◌, ◌^◌, Bool, true, false, ◌&&◌, ◌||◌, IsTrue, List, [], ◌∷◌, ◌++◌, map, flat_map, decimal, refl, sym, ap, subst, arith, length, ◌==◌}
use Rattle.std.specs.Char.{is_ascii_digit}
use Rattle.std.specs.List.{AllByRecursion, join_with_byte, list_all}
use Rattle.std.specs.Str.Parse.{AllDigits}
use Rattle.std.proofs.lemmas.Fmt.{decimal_injective, decimal_is_IsNumeral}
use Rattle.std.proofs.lemmas.Str.Parse.{tells_digits}
use Rattle.plain_lemmas.proofs.Lists.{each-append, nil-cons as one_is_none}
use Rattle.rdl_tree.specs.Words.{is_in_word, is_letter, is_word}
use Rattle.rdl_values.specs.Paths.{Step, joined, words_of}
use Rattle.v_design.specs.Lexemes.{is_name_byte}
use Rattle.rdl_sound_laws.proofs.Cut.{IsPlain, IsText, head_or, joined_once, rest_of}

-- the name is a word, and no index is so great that it hasn't digits of its own
abbrev pub IsSpelled : Step → Type 0
IsSpelled s = IsTrue (is_word s.name) × AllByRecursion (λ i. i < 2 ^ 64) s.index

-- Bytes.

and-left : (a b : Bool) → IsTrue (a && b) → IsTrue a
and-left true b h = refl
and-left false b h = cc

and-right : (a b : Bool) → IsTrue (a && b) → IsTrue b
and-right true b h = h
and-right false b h = cc

letter_in_word : (b : ℕ) → IsTrue (is_letter b) → IsTrue (is_in_word b)
letter_in_word b h = go (is_letter b) h
  where
    go : (t : Bool) → IsTrue t → IsTrue (t || is_ascii_digit b)
    go true h = refl
    go false h = cc

no_dollar : (b : ℕ) → IsTrue (is_in_word b) → b ≢ 36
no_dollar b h e = let no : false ≡ true = subst (λ c. IsTrue (is_in_word c)) e h in cc

plain_word : (bs : List ℕ) → IsTrue (list_all is_in_word bs) → IsPlain bs
plain_word [] h = tt
plain_word (b ∷ bs) h = (no_dollar b (and-left (is_in_word b) (list_all is_in_word bs) h), plain_word bs (and-right (is_in_word b) (list_all is_in_word bs) h))

no_word : false ≡ true → ⊥
no_word e = cc

word_text : (w : List ℕ) → IsTrue (is_word w) → IsText w
word_text [] h = no_word h
word_text (b ∷ bs) h = (no_dollar b (letter_in_word b (and-left (is_letter b) (list_all is_in_word bs) h)), plain_word bs (and-right (is_letter b) (list_all is_in_word bs) h))

plain_digits : (ds : List ℕ) → AllDigits 10 ds → IsPlain ds
plain_digits [] h = tt
plain_digits (d ∷ ds) h =
    let parts = tells_digits.parts d ds h in
    ((λ e. let low = parts.0.0 in absurd (omega (arith, low, e))), plain_digits ds parts.1)

number_text : (n : ℕ) → n < 2 ^ 64 → IsText (decimal n)
number_text n l = go (decimal n) (decimal_is_IsNumeral n l).0
  where
    go : (ds : List ℕ) → (0 < length ds) × AllDigits 10 ds → IsText ds
    go [] h = absurd (omega (arith, h.0))
    go (d ∷ ds) h = plain_digits (d ∷ ds) h.1

-- A word begins with a letter or _, and a number with a digit.

high_letter : (b : ℕ) → b ≤ 57 → IsTrue (is_letter b) → ⊥
high_letter b l h = grind (arith, l, h)

no_number : (w : List ℕ) (n : ℕ) → n < 2 ^ 64 → IsTrue (is_word w) → w ≡ decimal n → ⊥
no_number [] n l h e = no_word h
no_number (b ∷ bs) n l h e = go (decimal n) (decimal_is_IsNumeral n l).0 e
  where
    go : (ds : List ℕ) → (0 < length ds) × AllDigits 10 ds → b ∷ bs ≡ ds → ⊥
    go [] g q = one_is_none b bs (sym q)
    go (d ∷ ds) g q =
        let high = (tells_digits.parts d ds g.1).0.1 in
        let same = ap (head_or 0) q in
        high_letter b (omega (arith, high, same)) (and-left (is_letter b) (list_all is_in_word bs) h)

-- Words of steps.

-- it begins with a word, if with anything
abbrev Begins : List (List ℕ) → Type 0
Begins [] = Unit {0}
Begins (w ∷ ws) = IsTrue (is_word w)

indices_end : (ws vs : List (List ℕ)) (j : ℕ) → j < 2 ^ 64 → Begins ws → ws ≡ decimal j ∷ vs → ⊥
indices_end [] vs j l b e = one_is_none (decimal j) vs e
indices_end (w ∷ ws) vs j l b e = no_number w j l b (ap (head_or []) e)

same_indices : (is js : List ℕ) (ws vs : List (List ℕ)) → AllByRecursion (λ i. i < 2 ^ 64) is → AllByRecursion (λ i. i < 2 ^ 64) js → Begins ws → Begins vs → map decimal is ++ ws ≡ map decimal js ++ vs → (is ≡ js) × (ws ≡ vs)
same_indices [] [] ws vs h g b c e = (refl, e)
same_indices [] (j ∷ js) ws vs h g b c e = absurd (indices_end ws (map decimal js ++ vs) j g.0 b e)
same_indices (i ∷ is) [] ws vs h g b c e = absurd (indices_end vs (map decimal is ++ ws) i h.0 c (sym e))
same_indices (i ∷ is) (j ∷ js) ws vs h g b c e =
    let first : i ≡ j = decimal_injective i j h.0 g.0 (ap (head_or []) e) in
    let rest = same_indices is js ws vs h.1 g.1 b c (ap rest_of e) in
    (ap (λ k. k ∷ is) first ∙ ap (λ ks. j ∷ ks) rest.0, rest.1)

begin : (ss : List Step) → AllByRecursion IsSpelled ss → Begins (flat_map words_of ss)
begin [] h = tt
begin (s ∷ ss) h = h.0.0

same_steps : (ss ts : List Step) → AllByRecursion IsSpelled ss → AllByRecursion IsSpelled ts → flat_map words_of ss ≡ flat_map words_of ts → ss ≡ ts
same_steps [] [] h g e = refl
same_steps [] (t ∷ ts) h g e = absurd (one_is_none t.name (map decimal t.index ++ flat_map words_of ts) e)
same_steps (s ∷ ss) [] h g e = absurd (one_is_none s.name (map decimal s.index ++ flat_map words_of ss) (sym e))
same_steps (s ∷ ss) (t ∷ ts) h g e =
    let name : s.name ≡ t.name = ap (head_or []) e in
    let rest = same_indices s.index t.index (flat_map words_of ss) (flat_map words_of ts) h.0.1 g.0.1 (begin ss h.1) (begin ts g.1) (ap rest_of e) in
    let one : s ≡ t = ap (λ n. record { name = n; index = s.index }) name ∙ ap (λ is. record { name = t.name; index = is }) rest.0 in
    ap (λ x. x ∷ ss) one ∙ ap (λ xs. t ∷ xs) (same_steps ss ts h.1 g.1 rest.1)

number_texts : (is : List ℕ) → AllByRecursion (λ i. i < 2 ^ 64) is → AllByRecursion IsText (map decimal is)
number_texts [] h = tt
number_texts (i ∷ is) h = (number_text i h.0, number_texts is h.1)

texts : (ss : List Step) → AllByRecursion IsSpelled ss → AllByRecursion IsText (flat_map words_of ss)
texts [] h = tt
texts (s ∷ ss) h = (word_text s.name h.0.0, each-append IsText (map decimal s.index) (flat_map words_of ss) (number_texts s.index h.0.1) (texts ss h.1))

pub joined_steps : (ss ts : List Step) → AllByRecursion IsSpelled ss → AllByRecursion IsSpelled ts → joined ss ≡ joined ts → ss ≡ ts
joined_steps ss ts h g e = same_steps ss ts h g (joined_once (flat_map words_of ss) (flat_map words_of ts) (texts ss h) (texts ts g) e)

-- Bytes of path texts.

abbrev OfName : List ℕ → Type 0
OfName w = list_all is_name_byte w ≡ true

name-append : (v w : List ℕ) → OfName v → OfName w → OfName (v ++ w)
name-append [] w h g = g
name-append (b ∷ v) w h g = both (is_name_byte b) (list_all is_name_byte v) (list_all is_name_byte (v ++ w)) h (λ k. name-append v w k g)
  where
    both : (s t u : Bool) → s && t ≡ true → (t ≡ true → u ≡ true) → s && u ≡ true
    both true t u h f = f h
    both false t u h f = h

in_name : (b : ℕ) → IsTrue (is_in_word b) → is_name_byte b ≡ true
in_name b h = go (is_letter b) (is_ascii_digit b) h
  where
    go : (l d : Bool) → IsTrue (l || d) → (l || d) || (b == 36) ≡ true
    go true d h = refl
    go false true h = refl
    go false false h = absurd (no_word h)

in_word_named : (bs : List ℕ) → IsTrue (list_all is_in_word bs) → OfName bs
in_word_named [] h = refl
in_word_named (b ∷ bs) h = name-append (b ∷ []) bs (ap (λ t. t && true) (in_name b (and-left (is_in_word b) (list_all is_in_word bs) h))) (in_word_named bs (and-right (is_in_word b) (list_all is_in_word bs) h))

word_named : (w : List ℕ) → IsTrue (is_word w) → OfName w
word_named [] h = absurd (no_word h)
word_named (b ∷ bs) h = name-append (b ∷ []) bs (ap (λ t. t && true) (in_name b (letter_in_word b (and-left (is_letter b) (list_all is_in_word bs) h)))) (in_word_named bs (and-right (is_letter b) (list_all is_in_word bs) h))

digit_named : (d : ℕ) → 48 ≤ d → d ≤ 57 → is_name_byte d ≡ true
digit_named d l h = grind (arith, l, h)

digits_named : (ds : List ℕ) → AllDigits 10 ds → OfName ds
digits_named [] h = refl
digits_named (d ∷ ds) h =
    let parts = tells_digits.parts d ds h in
    name-append (d ∷ []) ds (ap (λ t. t && true) (digit_named d parts.0.0 parts.0.1)) (digits_named ds parts.1)

joined_named : (ws : List (List ℕ)) → AllByRecursion OfName ws → OfName (join_with_byte 36 ws)
joined_named [] h = refl
joined_named (w ∷ []) h = h.0
joined_named (w ∷ v ∷ ws) h = name-append w (36 ∷ join_with_byte 36 (v ∷ ws)) h.0 (joined_named (v ∷ ws) h.1)

indices_named : (is : List ℕ) → AllByRecursion (λ i. i < 2 ^ 64) is → AllByRecursion OfName (map decimal is)
indices_named [] h = tt
indices_named (i ∷ is) h = (digits_named (decimal i) (decimal_is_IsNumeral i h.0).0.1, indices_named is h.1)

steps_named : (ss : List Step) → AllByRecursion IsSpelled ss → AllByRecursion OfName (flat_map words_of ss)
steps_named [] h = tt
steps_named (s ∷ ss) h = (word_named s.name h.0.0, each-append OfName (map decimal s.index) (flat_map words_of ss) (indices_named s.index h.0.1) (steps_named ss h.1))

pub joined_bytes : (ss : List Step) → AllByRecursion IsSpelled ss → list_all is_name_byte (joined ss) ≡ true
joined_bytes ss h = joined_named (flat_map words_of ss) (steps_named ss h)

-- Which class a text's first byte decides.
use Rattle.std.specs.Str.Parse.{digits_value}
use Rattle.std.specs.List.{list_all, take_while, AllPass}
use Rattle.std.specs.Char.{is_ascii_digit}
use Rattle.std.proofs.Common.{◌≡◌, ℕ, ◌<◌, ◌≤◌, ◌^◌, Bool, true, false, not, ◌&&◌, ◌||◌, is_some, Option, Some, None, List, [], ◌∷◌, ◌++◌, length, refl, ap, sym, ◌∙◌, subst, arith, take, drop, get_or, take-append-drop, length-append}
use Rattle.std.proofs.lemmas.List.{take_at}
use Rattle.std.proofs.lemmas.Bool.{false_from_ne_true, le-ltb, lt-ltb}
use Rattle.std.proofs.lemmas.List.Sums.{AllPass-from_list_all}
use Rattle.std.proofs.lemmas.Bool.Decides.{nat_tests}
use Rattle.rb_grammar.specs.Lexemes.{has_form, meaning_of}
use Rattle.rb_grammar.specs.Separators.{begins_separator}
use Rattle.rb_grammar.specs.Spelling.{IsNext, IsFault, no_lexeme, NoLexeme, no_meaning, NoMeaning}
use Rattle.rb_grammar.proofs.Scanning.{run_passes, run_cons, run_taken}
use Rattle.rb_grammar.proofs.Lexing.{spelled_by, spelled_is, next_by_length, next_by_run}
use Rattle.rb_grammar_example.specs.declared.token.Mark.{Mark}
use Rattle.rb_grammar_example.specs.declared.token.Mark.TheVariants.{Equals, Arrow, To, Open, Close, Comma, Semicolon}
use Rattle.rb_grammar_example.specs.declared.token.TokenKind.TheVariants as kinds
use Rattle.rb_grammar_example.specs.Lexemes.{Lexeme, is_start, is_in_name, spelling, marks, mark_of, name_of, number_of, settings}
use Rattle.rb_grammar_example.specs.Marks.{NoMark, IsLongestMark}

-- the bytes that marks begin with: none begins a name or a number
abbrev begins_mark : ℕ → Bool
begins_mark b = not (is_start b) && not (is_ascii_digit b)

start_or_mark : (b : ℕ) (w : List ℕ) → is_start b ≡ true → mark_of (b ∷ w) ≡ None
unfolding mark_of
start_or_mark b w h = spelled_by spelling begins_mark marks b w refl (rw h refl)

digit_no_start : (b : ℕ) → is_ascii_digit b ≡ true → is_start b ≡ false
digit_no_start b h = grind (arith, nat_tests)

start_no_digit : (b : ℕ) → is_start b ≡ true → is_ascii_digit b ≡ false
start_no_digit b h = grind (arith, nat_tests)

digit_or_mark : (b : ℕ) (w : List ℕ) → is_ascii_digit b ≡ true → mark_of (b ∷ w) ≡ None
unfolding mark_of
digit_or_mark b w h = spelled_by spelling begins_mark marks b w refl (rw (digit_no_start b h, h) refl)

or_nothing : (a : Bool) → (a || (false || (false || false))) ≡ a
or_nothing true = refl
or_nothing false = refl

pub name_forms : (b : ℕ) (w : List ℕ) → is_start b ≡ true → has_form settings (b ∷ w) ≡ list_all is_in_name w
name_forms b w h = rw (h, start_no_digit b h, start_or_mark b w h) (or_nothing (list_all is_in_name w))

pub name_means : (b : ℕ) (w : List ℕ) → is_start b ≡ true → list_all is_in_name w ≡ true → meaning_of settings (b ∷ w) ≡ name_of (b ∷ w)
name_means b w h k = rw (h, k) refl

pub number_forms : (b : ℕ) (w : List ℕ) → is_ascii_digit b ≡ true → has_form settings (b ∷ w) ≡ list_all is_ascii_digit w
number_forms b w h = rw (digit_no_start b h, h, digit_or_mark b w h) (or_nothing (list_all is_ascii_digit w))

pub number_means : (b : ℕ) (w : List ℕ) → is_ascii_digit b ≡ true → list_all is_ascii_digit w ≡ true → meaning_of settings (b ∷ w) ≡ number_of (b ∷ w)
number_means b w h k = rw (digit_no_start b h, h, k) refl

or_false : (a : Bool) → (a || false) ≡ a
or_false true = refl
or_false false = refl

pub mark_forms : (b : ℕ) (w : List ℕ) → is_start b ≡ false → is_ascii_digit b ≡ false → has_form settings (b ∷ w) ≡ is_some (mark_of (b ∷ w))
mark_forms b w h k = rw (h, k) (or_false (is_some (mark_of (b ∷ w))))

is_spelled : (word : List ℕ) (m : Mark) → mark_of word ≡ Some m → word ≡ spelling m
unfolding mark_of
is_spelled word m h = spelled_is spelling marks word m h

some_mark : (word : List ℕ) → is_some (mark_of word) ≡ true → (m : Mark) × (mark_of word ≡ Some m)
some_mark word h = go (mark_of word) refl h
  where
    go : (o : Option Mark) → mark_of word ≡ o → is_some o ≡ true → (m : Mark) × (mark_of word ≡ Some m)
    go None e k = cc
    go (Some m) e k = (m, e)

-- a lexeme at the front of a text that begins like no name and no number is a mark
lexeme_mark : (b : ℕ) (bs other after : List ℕ) → is_start b ≡ false → is_ascii_digit b ≡ false → b ∷ bs ≡ other ++ after → has_form settings other ≡ true → (m : Mark) × (other ≡ spelling m)
lexeme_mark b bs [] after h k e f = cc
lexeme_mark b bs (c ∷ cs) after h k e f =
    let same : b ≡ c = cc in
    let q = some_mark (c ∷ cs) (sym (mark_forms c cs (sym (ap is_start same) ∙ h) (sym (ap is_ascii_digit same) ∙ k)) ∙ f) in
    (q.0, is_spelled (c ∷ cs) q.0 q.1)

pub longest_name : (text : List ℕ) (n : ℕ) → 0 < length text → begins_separator true text ≡ false → is_start (get_or text 0 0) ≡ true → n ≡ length (take_while is_in_name text)
    → IsNext settings text (take n text) (drop n text) × (meaning_of settings (take n text) ≡ name_of (take n text))
longest_name [] n l bare h e = absurd (omega arith)
longest_name (b ∷ bs) n l bare h e =
    let first : is_in_name b ≡ true = rw h refl in
    let run : take n (b ∷ bs) ≡ b ∷ take_while is_in_name bs = run_taken is_in_name n (b ∷ bs) e ∙ run_cons is_in_name b bs first in
    (next_by_run settings is_in_name b bs n bare first (λ w. name_forms b w h) e, rw run (name_means b (take_while is_in_name bs) h (run_passes is_in_name bs)))

pub longest_number : (text : List ℕ) (n : ℕ) → 0 < length text → begins_separator true text ≡ false → is_ascii_digit (get_or text 0 0) ≡ true → n ≡ length (take_while is_ascii_digit text)
    → IsNext settings text (take n text) (drop n text) × (meaning_of settings (take n text) ≡ number_of (take n text))
longest_number [] n l bare h e = absurd (omega arith)
longest_number (b ∷ bs) n l bare h e =
    let run : take n (b ∷ bs) ≡ b ∷ take_while is_ascii_digit bs = run_taken is_ascii_digit n (b ∷ bs) e ∙ run_cons is_ascii_digit b bs h in
    (next_by_run settings is_ascii_digit b bs n bare h (λ w. number_forms b w h) e, rw run (number_means b (take_while is_ascii_digit bs) h (run_passes is_ascii_digit bs)))

mark_lexeme : (m : Mark) → (has_form settings (spelling m) ≡ true) × (meaning_of settings (spelling m) ≡ Some (record { kind = kinds.Mark m; text = spelling m }))
unfolding mark_of
mark_lexeme Equals = (refl, refl)
mark_lexeme Arrow = (refl, refl)
mark_lexeme To = (refl, refl)
mark_lexeme Open = (refl, refl)
mark_lexeme Close = (refl, refl)
mark_lexeme Comma = (refl, refl)
mark_lexeme Semicolon = (refl, refl)

pub longest_mark : (text : List ℕ) (n : ℕ) (m : Mark) → 0 < length text → begins_separator true text ≡ false → is_start (get_or text 0 0) ≡ false → is_ascii_digit (get_or text 0 0) ≡ false → IsLongestMark text m
    → n ≡ length (spelling m) → IsNext settings text (take n text) (drop n text) × (meaning_of settings (take n text) ≡ Some (record { kind = kinds.Mark m; text = take n text }))
longest_mark [] n m l bare h k p e = absurd (omega arith)
longest_mark (b ∷ bs) n m l bare h k p e =
    let word : take n (b ∷ bs) ≡ spelling m = ap (take n) p.0.1 ∙ take_at (spelling m) p.0.0 n (sym e) in (
      next_by_length settings (b ∷ bs) (take n (b ∷ bs)) (drop n (b ∷ bs)) (sym (take-append-drop n (b ∷ bs))) bare (ap (has_form settings) word ∙ (mark_lexeme m).0) (λ other after f g.
          let q = lexeme_mark b bs other after h k f g in
          subst (λ z. length z ≤ length (take n (b ∷ bs))) (sym q.1) (subst (λ z. length (spelling q.0) ≤ length z) (sym word) (p.1 q.0 (after, f ∙ ap (λ z. z ++ after) q.1)))),
      rw word (mark_lexeme m).1,
    )

pub mark_within : (text : List ℕ) (n : ℕ) (m : Mark) → IsLongestMark text m → n ≡ length (spelling m) → n ≤ length text
mark_within text n m p e = omega (arith, e, ap length p.0.1, length-append (spelling m) p.0.0)

pub no_lexeme_here : (text : List ℕ) → 0 < length text → begins_separator true text ≡ false → is_start (get_or text 0 0) ≡ false → is_ascii_digit (get_or text 0 0) ≡ false → NoMark text
    → IsFault settings text (NoLexeme (get_or text 0 0))
no_lexeme_here [] l bare h k p = absurd (omega arith)
no_lexeme_here (b ∷ bs) l bare h k p = no_lexeme bare (λ word rest e. false_from_ne_true (has_form settings word) (λ f. let q = lexeme_mark b bs word rest h k e f in p q.0 (rest, e ∙ ap (λ z. z ++ rest) q.1)))

too_large : (word : List ℕ) → (digits_value 10 word < 2 ^ 64 → ⊥) → number_of word ≡ None
too_large word h = rw (le-ltb (digits_value 10 word) (2 ^ 64) (omega (arith, h))) refl

pub no_meaning_here : (text : List ℕ) (n : ℕ) → 0 < length text → begins_separator true text ≡ false → is_ascii_digit (get_or text 0 0) ≡ true → n ≡ length (take_while is_ascii_digit text)
    → (digits_value 10 (take n text) < 2 ^ 64 → ⊥) → IsFault settings text (NoMeaning (take n text))
no_meaning_here text n l bare h e k = let p = longest_number text n l bare h e in no_meaning (take n text) (drop n text) p.0 (p.1 ∙ too_large (take n text) k)

pub number_means_value : (word : List ℕ) (v : ℕ) → (digits_value 10 word < 2 ^ 64) × (v ≡ digits_value 10 word) → number_of word ≡ Some (record { kind = kinds.Number v; text = word })
number_means_value word v e = rw (lt-ltb (digits_value 10 word) (2 ^ 64) e.0, e.1) refl

pub digits_pass : (text : List ℕ) (n : ℕ) → n ≡ length (take_while is_ascii_digit text) → AllPass is_ascii_digit (take n text)
digits_pass text n e = AllPass-from_list_all is_ascii_digit (take n text) (ap (list_all is_ascii_digit) (run_taken is_ascii_digit n text e) ∙ run_passes is_ascii_digit text)

-- the token that the code splits off
pub split_off : (n : ℕ) {left text rest : List ℕ} {t u : Lexeme} → text ≡ take n left → rest ≡ drop n left → t ≡ u
    → IsNext settings left (take n left) (drop n left) × (meaning_of settings (take n left) ≡ Some u) → IsNext settings left text rest × (meaning_of settings text ≡ Some t)
split_off n {left} {text} {rest} {t} {u} e f g p =
    (subst (λ z. IsNext settings left z rest) (sym e) (subst (λ z. IsNext settings left (take n left) z) (sym f) p.0), ap (meaning_of settings) e ∙ (p.1 ∙ ap Some (sym g)))

pub longest_value : (text : List ℕ) (n v : ℕ) → 0 < length text → begins_separator true text ≡ false → is_ascii_digit (get_or text 0 0) ≡ true → n ≡ length (take_while is_ascii_digit text)
    → (digits_value 10 (take n text) < 2 ^ 64) × (v ≡ digits_value 10 (take n text)) → IsNext settings text (take n text) (drop n text) × (meaning_of settings (take n text) ≡ Some (record { kind = kinds.Number v; text = take n text }))
longest_value text n v l bare h e k = let p = longest_number text n l bare h e in (p.0, p.1 ∙ number_means_value (take n text) v k)

-- The longest lexeme at the front of a text.
use Rattle.std.specs.List.{list_all, take_while}
use Rattle.std.specs.Str.{bytes_eq}
use Rattle.std.specs.Cmp.Lexicographic.{bytes_decides}
use Rattle.std.proofs.Common.{◌≡◌, ℕ, ◌+◌, ◌-◌, ◌<◌, ◌≤◌, Bool, true, false, ◌||◌, ◌==◌, nat_eq, if◌then◌else◌, is_some, Option, Some, None, List, [], ◌∷◌, ◌++◌, length, take, drop, get_or, suc, codes, refl, sym, ap, ◌∙◌, subst, arith, ◌⊎◌, inl, inr, length-append, length-take, take-append-drop, drop-cons}
use Rattle.std.proofs.lemmas.Bool.{and_parts}
use native.Mathlib.Decide.{dec_le}
use Rattle.std.proofs.lemmas.List.{take_at, take-take}
use Rattle.std.specs.List.{starts_with}
use Rattle.plain_lemmas.proofs.Bools.{false-of_not_true as refute}
use Rattle.plain_lemmas.proofs.Lists.{take_drop-one as behind_one}
use Rattle.plain_lemmas.proofs.Numbers.{eq-swapped as byte_is}
use Rattle.rdl_base.specs.declared.rule.Rule.{Rule}
use Rattle.rdl_base.specs.declared.rule.Rule.TheVariants.{L1, L3, L5, L6}
use Rattle.rb_grammar.specs.Separators.{begins_separator}
use Rattle.rb_grammar.specs.Lexemes.{has_form}
use Rattle.rb_grammar.specs.Spelling.{IsNext, no_lexeme, no_meaning, NoLexeme, NoMeaning}
use Rattle.rb_grammar.proofs.Lexing.{next_by_length}
use Rattle.rb_grammar.proofs.Scanning.{run_passes, run_cons, run_longest, run_taken}
use Rattle.rdl_tree.specs.declared.token.Mark.{Mark}
use Rattle.rdl_tree.specs.declared.token.TokenKind.{TokenKind}
use Rattle.rdl_tree.specs.declared.token.TokenKind.TheVariants as kinds
use Rattle.rdl_tree.specs.Tokens.{spelling as bytes_of, mark_of}
use Rattle.rdl_lexer.specs.Lexemes.{is_letter, is_in_word, is_word, is_backslash, is_string_quote, is_closed, is_other, word_kind, systemrdl}
use Rattle.rdl_lexer.specs.Faults.{rule_of}
use Rattle.rdl_lexer.specs.Reading.{IsLexeme, Breaks, begins, begins_other}
use Rattle.rdl_lexer.proofs.Classes.{form_of_letter, letter_means, form_of_backslash, backslash_means, form_of_quote, quote_means, form_of_other, mark_spelled, mark_form, mark_means, perl_form, perl_means, perl_longest, other_only}

-- no front with a form is longer
abbrev pub IsBound : ℕ → List ℕ → Type 0
IsBound n text = (other after : List ℕ) → text ≡ other ++ after → has_form systemrdl other ≡ true → length other ≤ n

pub next_by : (n : ℕ) (text : List ℕ) → n ≤ length text → begins_separator true text ≡ false → has_form systemrdl (take n text) ≡ true → IsBound n text → IsNext systemrdl text (take n text) (drop n text)
unfolding systemrdl
next_by n text within bare form bound = next_by_length systemrdl text (take n text) (drop n text) (sym (take-append-drop n text)) bare form
    (λ other after e f. omega (arith, bound other after e f, length-take n text))

run_within : (p : ℕ → Bool) (n : ℕ) (text : List ℕ) → n ≡ length (take_while p text) → n ≤ length text
run_within p n text e = omega (arith, e, ap length (take-append-drop n text), length-append (take n text) (drop n text), ap length (run_taken p n text e))

-- Words.

word_start : (b : ℕ) → is_letter b ≡ true → is_in_word b ≡ true
word_start b h = rw h refl

word_passes : (word : List ℕ) → is_word word ≡ true → list_all is_in_word word ≡ true
word_passes [] h = cc
word_passes (b ∷ bs) h = let p = and_parts (is_letter b) (list_all is_in_word bs) h in rw (word_start b p.0) p.1

word_run : (b : ℕ) (bs : List ℕ) → is_letter b ≡ true → take_while is_in_word (b ∷ bs) ≡ b ∷ take_while is_in_word bs
word_run b bs h = run_cons is_in_word b bs (word_start b h)

-- the word at the front of a text
pub word_taken : (n b : ℕ) (bs : List ℕ) → is_letter b ≡ true → n ≡ length (take_while is_in_word (b ∷ bs)) → take n (b ∷ bs) ≡ b ∷ take_while is_in_word bs
word_taken n b bs h e = run_taken is_in_word n (b ∷ bs) e ∙ word_run b bs h

word_bound : (n b : ℕ) (bs : List ℕ) → is_letter b ≡ true → n ≡ length (take_while is_in_word (b ∷ bs)) → IsBound n (b ∷ bs)
word_bound n b bs h e [] after f w = omega arith
word_bound n b bs h e (y ∷ ys) after f w =
    let same : b ≡ y = cc in
    let word : is_word (y ∷ ys) ≡ true = sym (form_of_letter y ys (subst (λ z. is_letter z ≡ true) same h)) ∙ w in
    omega (arith, e, run_longest is_in_word (b ∷ bs) (y ∷ ys) after f (word_passes (y ∷ ys) word))

pub word_lexeme : (n : ℕ) (text : List ℕ) (kind : TokenKind) → begins_separator true text ≡ false → begins is_letter text ≡ true → n ≡ length (take_while is_in_word text) → kind ≡ word_kind (take n text)
    → IsLexeme text n kind (take n text)
word_lexeme n [] kind bare h e k = cc
word_lexeme n (b ∷ bs) kind bare h e k =
    let taken = word_taken n b bs h e in
    let passes = run_passes is_in_word bs in
    record {
      within = run_within is_in_word n (b ∷ bs) e;
      next = next_by n (b ∷ bs) (run_within is_in_word n (b ∷ bs) e) bare (rw taken (form_of_letter b _ h ∙ rw (h, passes) refl)) (word_bound n b bs h e);
      means = rw (k, taken) (letter_means b _ h passes);
    }

-- Words behind a backslash.

-- nothing that begins with a backslash is longer than the word behind it
escaped_bound : (n b : ℕ) (bs : List ℕ) → is_letter b ≡ true → n ≡ length (take_while is_in_word (b ∷ bs)) → IsBound (suc n) (92 ∷ b ∷ bs)
escaped_bound n b bs h e [] after f w = omega arith
escaped_bound n b bs h e (y ∷ ys) after f w =
    let same : y ≡ 92 = cc in
    let rest : b ∷ bs ≡ ys ++ after = cc in
    let word : is_word ys ≡ true = sym (form_of_backslash ys) ∙ subst (λ z. has_form systemrdl (z ∷ ys) ≡ true) same w in
    omega (arith, e, run_longest is_in_word (b ∷ bs) ys after rest (word_passes ys word))

pub escaped_lexeme : (n : ℕ) (text : List ℕ) → begins_separator true text ≡ false → begins is_backslash text ≡ true → 2 ≤ length text → true ≡ is_letter (get_or text 1 0)
    → n ≡ length (take_while is_in_word (take (length text - 1) (drop 1 text))) → IsLexeme text (n + 1) kinds.Word (take n (take (length text - 1) (drop 1 text)))
escaped_lexeme n [] bare h l i e = cc
escaped_lexeme n (x ∷ []) bare h l i e = absurd (omega arith)
escaped_lexeme n (x ∷ b ∷ bs) bare h l i e =
    let slash = byte_is 92 x h in
    let letter = sym i in
    let run : n ≡ length (take_while is_in_word (b ∷ bs)) = rw behind_one at e in
    let taken = word_taken n b bs letter run in
    let word : is_word (take n (b ∷ bs)) ≡ true = rw (taken, letter) (run_passes is_in_word bs) in
    let more : n + 1 ≡ suc n = omega arith in
    let within = run_within is_in_word n (b ∷ bs) run in
    rw (behind_one, slash, more) record {
      within = omega (arith, within);
      next = next_by (suc n) (92 ∷ b ∷ bs) (omega (arith, within)) (subst (λ z. begins_separator true (z ∷ b ∷ bs) ≡ false) slash bare) (form_of_backslash _ ∙ word) (escaped_bound n b bs letter run);
      means = backslash_means _ word;
    }

-- no word stands behind a backslash
no_escaped : (b : ℕ) (bs : List ℕ) → is_letter b ≡ false → (word rest : List ℕ) → 92 ∷ b ∷ bs ≡ word ++ rest → has_form systemrdl word ≡ false
no_escaped b bs h [] rest e = refl
no_escaped b bs h (y ∷ []) rest e = let same : y ≡ 92 = cc in rw same (form_of_backslash [])
no_escaped b bs h (y ∷ z ∷ zs) rest e =
    let same : y ≡ 92 = cc in
    let second : z ≡ b = cc in
    rw (same, second) (form_of_backslash (b ∷ zs) ∙ rw h refl)

lone_backslash : (word rest : List ℕ) → 92 ∷ [] ≡ word ++ rest → has_form systemrdl word ≡ false
lone_backslash [] rest e = refl
lone_backslash (y ∷ []) rest e = let same : y ≡ 92 = cc in rw same (form_of_backslash [])
lone_backslash (y ∷ z ∷ zs) rest e = cc

pub escaped_breaks : (text : List ℕ) → begins_separator true text ≡ false → begins is_backslash text ≡ true → (length text < 2) ⊎ (is_letter (get_or text 1 0) ≡ false) → Breaks text L1
unfolding systemrdl
escaped_breaks [] bare h e = cc
escaped_breaks (x ∷ []) bare h e = let slash = byte_is 92 x h in record { wrong = NoLexeme x; stands = no_lexeme bare (rw slash lone_backslash); named = rw slash refl }
escaped_breaks (x ∷ b ∷ bs) bare h (inl e) = absurd (omega (arith, e))
escaped_breaks (x ∷ b ∷ bs) bare h (inr e) = let slash = byte_is 92 x h in record { wrong = NoLexeme x; stands = no_lexeme bare (rw slash (no_escaped b bs e)); named = rw slash refl }

-- Strings.

at_quote : (x : ℕ) (xs ys : List ℕ) (q : Bool) → is_string_quote x ≡ q → is_closed false (x ∷ xs) ≡ true → is_closed false (x ∷ ys) ≡ true
    → (is_closed (is_backslash x) xs ≡ true → is_closed (is_backslash x) ys ≡ true → length xs ≡ length ys) → length (x ∷ xs) ≡ length (x ∷ ys)
at_quote x [] [] true e h k ih = refl
at_quote x [] (y ∷ ys) true e h k ih = let w = rw e at k in cc
at_quote x (y ∷ ys) zs true e h k ih = let w = rw e at h in cc
at_quote x xs ys false e h k ih = omega (arith, ih (rw e at h) (rw e at k))

-- of two fronts of one text that are closed, none is longer
closed_once : (taken : Bool) (xs ys us vs : List ℕ) → xs ++ us ≡ ys ++ vs → is_closed taken xs ≡ true → is_closed taken ys ≡ true → length xs ≡ length ys
closed_once taken [] ys us vs e h k = cc
closed_once taken (x ∷ xs) [] us vs e h k = cc
closed_once true (x ∷ xs) (y ∷ ys) us vs e h k = let rest : xs ++ us ≡ ys ++ vs = cc in omega (arith, closed_once false xs ys us vs rest h k)
closed_once false (x ∷ xs) (y ∷ ys) us vs e h k =
    let same : y ≡ x = cc in
    let rest : xs ++ us ≡ ys ++ vs = cc in
    at_quote x xs ys (is_string_quote x) refl h (subst (λ z. is_closed false (z ∷ ys) ≡ true) same k) (λ a b. closed_once (is_backslash x) xs ys us vs rest a b)

-- One byte on in a string that is not closed so far.
abbrev pub OpenSoFar : ℕ → List ℕ → Type 0
OpenSoFar i text = (n : ℕ) → n ≤ i → is_closed false (take n text) ≡ false

abbrev pub GoesOn : ℕ → Bool → List ℕ → Type 0
GoesOn i taken text = (n : ℕ) → is_closed false (take (i + n) text) ≡ is_closed taken (take n (drop i text))

goes_on_more : (i : ℕ) (text : List ℕ) (taken next : Bool) → i < length text → ((bs : List ℕ) → is_closed taken (get_or text i 0 ∷ bs) ≡ is_closed next bs) → GoesOn i taken text → GoesOn (i + 1) next text
goes_on_more i text taken next lt step on n =
    let here : drop i text ≡ get_or text i 0 ∷ drop (suc i) text = drop-cons text i 0 lt in
    let far : i + 1 + n ≡ i + suc n = omega arith in
    let more : suc i ≡ i + 1 = omega arith in
    ap (λ k. is_closed false (take k text)) far ∙ (on (suc n) ∙ (ap (λ z. is_closed taken (take (suc n) z)) here ∙ (step (take n (drop (suc i) text)) ∙ ap (λ k. is_closed next (take n (drop k text))) more)))

open_more : (i : ℕ) (text : List ℕ) (next : Bool) → OpenSoFar i text → GoesOn (i + 1) next text → OpenSoFar (i + 1) text
open_more i text next so_far on n le = elim (dec_le n i) [
  | yes p ↦ so_far n p
  | no q ↦ (let here : n ≡ i + 1 + 0 = omega (arith, q) in ap (λ k. is_closed false (take k text)) here ∙ on 0)
]

pub closed_more : (i : ℕ) (text : List ℕ) (taken next : Bool) → i < length text → ((bs : List ℕ) → is_closed taken (get_or text i 0 ∷ bs) ≡ is_closed next bs) → OpenSoFar i text → GoesOn i taken text
    → OpenSoFar (i + 1) text × GoesOn (i + 1) next text
closed_more i text taken next lt step so_far on = let more = goes_on_more i text taken next lt step on in (open_more i text next so_far more, more)

string_bound : (n : ℕ) (body : List ℕ) → n ≤ length body → is_closed false (take n body) ≡ true → IsBound (suc n) (34 ∷ body)
string_bound n body within h [] after e w = omega arith
string_bound n body within h (y ∷ ys) after e w =
    let same : y ≡ 34 = cc in
    let rest : body ≡ ys ++ after = cc in
    let closed : is_closed false ys ≡ true = sym (form_of_quote ys) ∙ subst (λ z. has_form systemrdl (z ∷ ys) ≡ true) same w in
    omega (arith, closed_once false (take n body) ys (drop n body) after (take-append-drop n body ∙ rest) h closed, length-take n body)

-- what stands between the quotes
inner_is : (n : ℕ) (body : List ℕ) → 0 < n → length (take n body) ≡ n → take (length (34 ∷ take n body) - 2) (take n body) ≡ take (n - 1) body
inner_is n body p len =
    let short : length (34 ∷ take n body) - 2 ≡ n - 1 = omega (arith, len) in
    ap (λ k. take k (take n body)) short ∙ take-take (n - 1) n body (omega arith)

pub string_lexeme : (n : ℕ) (text : List ℕ) → begins_separator true text ≡ false → begins is_string_quote text ≡ true → 0 < n → n ≤ length (take (length text - 1) (drop 1 text))
    → is_closed false (take n (take (length text - 1) (drop 1 text))) ≡ true → IsLexeme text (n + 1) kinds.Str (take (n - 1) (take (length text - 1) (drop 1 text)))
string_lexeme n [] bare h p l e = cc
string_lexeme n (x ∷ body) bare h p l e =
    let quote = byte_is 34 x h in
    let within : n ≤ length body = rw behind_one at l in
    let closed : is_closed false (take n body) ≡ true = rw behind_one at e in
    let more : n + 1 ≡ suc n = omega arith in
    let len : length (take n body) ≡ n = omega (arith, length-take n body) in
    let inner : take (length (34 ∷ take n body) - 2) (take n body) ≡ take (n - 1) body = inner_is n body p len in
    let all : suc n ≤ length (34 ∷ body) = omega (arith, within) in
    rw (behind_one, quote, more) record {
      within = all;
      next = next_by (suc n) (34 ∷ body) all (subst (λ z. begins_separator true (z ∷ body) ≡ false) quote bare) (form_of_quote _ ∙ closed) (string_bound n body within closed);
      means = quote_means _ closed ∙ ap (λ z. Some (record { kind = kinds.Str; text = z })) inner;
    }

front_is_take : (body word rest : List ℕ) → body ≡ word ++ rest → take (length word) body ≡ word
front_is_take body word rest e = ap (take (length word)) e ∙ take_at word rest (length word) refl

no_string : (body : List ℕ) → ((n : ℕ) → is_closed false (take n body) ≡ false) → (word rest : List ℕ) → 34 ∷ body ≡ word ++ rest → has_form systemrdl word ≡ false
no_string body h [] rest e = refl
no_string body h (y ∷ ys) rest e =
    let same : y ≡ 34 = cc in
    let front : body ≡ ys ++ rest = cc in
    rw same (form_of_quote ys ∙ (ap (is_closed false) (sym (front_is_take body ys rest front)) ∙ h (length ys)))

pub string_breaks : (text : List ℕ) → begins_separator true text ≡ false → begins is_string_quote text ≡ true → ((n : ℕ) → is_closed false (take n (take (length text - 1) (drop 1 text))) ≡ false) → Breaks text L3
unfolding systemrdl
string_breaks [] bare h e = cc
string_breaks (x ∷ body) bare h e =
    let quote = byte_is 34 x h in
    let never : (n : ℕ) → is_closed false (take n body) ≡ false = rw behind_one at e in
    record { wrong = NoLexeme x; stands = no_lexeme bare (rw quote (no_string body never)); named = rw quote refl }

-- Marks.

starts_perl : (text : List ℕ) → true ≡ starts_with nat_eq text (codes "<%") → codes "<%" ≡ take 2 text
starts_perl text h = (bytes_decides (codes "<%") (take 2 text)).0 (sym h)

perl_bound : (text : List ℕ) → codes "<%" ≡ take 2 text → IsBound 2 text
perl_bound text h [] after e w = omega arith
perl_bound text h (y ∷ []) after e w = omega arith
perl_bound text h (y ∷ z ∷ zs) after e w =
    let front : codes "<%" ≡ y ∷ z ∷ [] = h ∙ ap (take 2) e in
    let first : y ≡ 60 = cc in
    let second : z ≡ 37 = cc in
    let more = perl_longest zs (subst (λ b. has_form systemrdl (b ∷ 37 ∷ zs) ≡ true) first (subst (λ c. has_form systemrdl (y ∷ c ∷ zs) ≡ true) second w)) in
    omega (arith, ap length more)

pub perl_breaks : (text : List ℕ) → begins_separator true text ≡ false → 2 ≤ length text → true ≡ starts_with nat_eq text (codes "<%") → Breaks text L5
perl_breaks text bare l h =
    let front = starts_perl text h in
    record {
      wrong = NoMeaning (take 2 text);
      stands = no_meaning (take 2 text) (drop 2 text) (next_by 2 text l bare (rw (← front) perl_form) (perl_bound text front)) (rw (← front) perl_means);
      named = subst (λ z. L5 ≡ rule_of (NoMeaning z)) front refl;
    }

-- what has a form at the front of a text that begins with a byte of marks is a mark, where no Perl code begins
is_mark : (text other after : List ℕ) → begins_other text ≡ true → false ≡ starts_with nat_eq text (codes "<%") → text ≡ other ++ after → has_form systemrdl other ≡ true → (m : Mark) × (bytes_of m ≡ other)
is_mark text [] after o plain e w = let k : false ≡ true = w in cc
is_mark text (y ∷ ys) after o plain e w =
    let first : is_other y ≡ true = subst (λ z. begins_other z ≡ true) e o in
    go (mark_of (y ∷ ys)) refl (sym (form_of_other y ys first) ∙ w)
  where
    go : (found : Option Mark) → mark_of (y ∷ ys) ≡ found → (is_some found || bytes_eq (codes "<%") (y ∷ ys)) ≡ true → (m : Mark) × (bytes_of m ≡ y ∷ ys)
    go (Some m) f h = (m, mark_spelled (y ∷ ys) m f)
    go None f h =
        let front : codes "<%" ≡ y ∷ ys = (bytes_decides (codes "<%") (y ∷ ys)).0 h in
        let taken : take 2 text ≡ codes "<%" = ap (take 2) e ∙ (ap (λ z. take 2 (z ++ after)) (sym front)) in
        let starts : starts_with nat_eq text (codes "<%") ≡ true = (bytes_decides (codes "<%") (take 2 text)).1 (sym taken) in
        cc

pub mark_lexeme : (n : ℕ) (text : List ℕ) (m : Mark) → begins_separator true text ≡ false → begins_other text ≡ true → false ≡ starts_with nat_eq text (codes "<%") → n ≡ length (bytes_of m)
    → ((more : List ℕ) × (text ≡ bytes_of m ++ more)) × ((o : Mark) (more : List ℕ) → text ≡ bytes_of o ++ more → length (bytes_of o) ≤ length (bytes_of m)) → IsLexeme text n (kinds.Mark m) (take n text)
mark_lexeme n text m bare other plain len h =
    let taken : take n text ≡ bytes_of m = ap (take n) h.0.1 ∙ take_at (bytes_of m) h.0.0 n (sym len) in
    let within : n ≤ length text = omega (arith, len, ap length h.0.1, length-append (bytes_of m) h.0.0) in
    record {
      within = within;
      next = next_by n text within bare (rw taken (mark_form m)) (λ o after e w. let k = is_mark text o after other plain e w in omega (arith, len, ap length k.1, h.1 k.0 after (e ∙ ap (λ z. z ++ after) (sym k.1))));
      means = rw taken (mark_means m);
    }

mark_rule : (b : ℕ) (rule : Rule) → is_other b ≡ true → rule ≡ (if b == 96 then L6 else L1) → rule ≡ rule_of (NoLexeme b)
mark_rule b rule o e = rw (other_only b o).3 e

pub mark_breaks : (text : List ℕ) (rule : Rule) → begins_separator true text ≡ false → begins_other text ≡ true → false ≡ starts_with nat_eq text (codes "<%") → ((m : Mark) (more : List ℕ) → text ≡ bytes_of m ++ more → ⊥)
    → rule ≡ (if get_or text 0 0 == 96 then L6 else L1) → Breaks text rule
unfolding systemrdl
mark_breaks [] rule bare other plain never named = cc
mark_breaks (b ∷ bs) rule bare other plain never named = record {
  wrong = NoLexeme b;
  stands = no_lexeme bare (λ word rest e. refute _ (λ w. let k = is_mark (b ∷ bs) word rest other plain e w in never k.0 rest (e ∙ ap (λ z. z ++ rest) (sym k.1))));
  named = mark_rule b rule other named;
}

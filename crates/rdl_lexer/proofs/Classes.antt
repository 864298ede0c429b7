-- Which classes a lexeme may be of, by its first byte.
use Rattle.std.specs.Char.{is_ascii_digit}
use Rattle.std.specs.List.{list_all}
use Rattle.std.specs.Str.{bytes_eq}
use Rattle.std.specs.Cmp.Lexicographic.{bytes_decides}
use Rattle.std.proofs.Common.{◌≡◌, ℕ, ◌-◌, Bool, true, false, not, ◌&&◌, ◌||◌, ◌==◌, is_some, Option, Some, None, List, [], ◌∷◌, length, take, drop, codes, refl, sym, ◌∙◌, subst, arith}
use Rattle.std.proofs.Math.Bool.{or-false}
use Rattle.std.proofs.lemmas.Bool.{and_parts}
use Rattle.std.proofs.lemmas.Bool.Decides.{nat_tests}
use Rattle.rb_grammar.specs.Lexemes.{has_form, meaning_of}
use Rattle.rdl_tree.specs.declared.token.Mark.{Mark}
use Rattle.rdl_tree.specs.declared.token.Mark.TheVariants as mark
use Rattle.rdl_tree.specs.declared.token.TokenKind.TheVariants as kinds
use Rattle.rdl_tree.specs.Tokens.{spelling, marks, mark_of}
use Rattle.std.specs.List.{before_first, after_first}
use Rattle.std.specs.Str.Parse.{digits_value}
use Rattle.plain_lemmas.proofs.Bools.{false-of_not_true as refute}
use Rattle.plain_lemmas.proofs.Numbers.{eq-swapped as is_byte}
use Rattle.rdl_lexer.specs.Numbers.{value_of, value_of_size, digits_of, is_quote, is_decimal, is_hexadecimal, is_sized, is_in_decimal}
use Rattle.rdl_lexer.specs.Lexemes.{is_letter, is_in_word, is_word, is_backslash, is_string_quote, is_closed, is_other, word_kind, number, systemrdl}
use Rattle.rdl_lexer.specs.Reading.{begins}
use Rattle.rdl_lexer.proofs.Splits.{before_cons, find_passes}

-- The byte that begins one class begins no other.

letter_only : (b : ℕ) → is_letter b ≡ true → (is_backslash b ≡ false) × (is_string_quote b ≡ false) × (is_ascii_digit b ≡ false)
letter_only b h = (refute _ (λ e. grind (arith, nat_tests)), refute _ (λ e. grind (arith, nat_tests)), refute _ (λ e. grind (arith, nat_tests)))

digit_only : (b : ℕ) → is_ascii_digit b ≡ true → (is_letter b ≡ false) × (is_backslash b ≡ false) × (is_string_quote b ≡ false)
digit_only b h = (refute _ (λ e. grind (arith, nat_tests)), refute _ (λ e. grind (arith, nat_tests)), refute _ (λ e. grind (arith, nat_tests)))

pub other_only : (b : ℕ) → is_other b ≡ true → (is_letter b ≡ false) × (is_ascii_digit b ≡ false) × (is_backslash b ≡ false) × (is_string_quote b ≡ false)
other_only b h = split (is_letter b) (is_ascii_digit b) (is_backslash b) (is_string_quote b) h
  where
    split : (a d s q : Bool) → not (a || (d || (s || q))) ≡ true → (a ≡ false) × (d ≡ false) × (s ≡ false) × (q ≡ false)
    split true d s q e = cc
    split false true s q e = cc
    split false false true q e = cc
    split false false false true e = cc
    split false false false false e = (refl, refl, refl, refl)

-- What cannot begin with the byte.

no_hexadecimal : (b : ℕ) (bs : List ℕ) → is_ascii_digit b ≡ false → is_hexadecimal (b ∷ bs) ≡ false
no_hexadecimal b [] e = refl
no_hexadecimal b (x ∷ bs) e = let z : (b == 48) ≡ false = refute _ (λ h. let s = is_byte 48 b h in let d = subst (λ k. is_ascii_digit k ≡ false) s e in cc) in rw z refl

no_sized : (b : ℕ) (bs : List ℕ) → is_ascii_digit b ≡ false → is_sized (b ∷ bs) ≡ false
no_sized b bs e = go (is_quote b) refl
  where
    go : (q : Bool) → is_quote b ≡ q → is_sized (b ∷ bs) ≡ false
    go true h = rw h refl
    go false h = rw (before_cons b bs h, e) refl

-- a mark begins with none of these bytes
spelled_other : (m : Mark) → begins is_other (spelling m) ≡ true
spelled_other mark.OpenBrace = refl
spelled_other _ = refl

pub mark_spelled : (word : List ℕ) (m : Mark) → mark_of word ≡ Some m → spelling m ≡ word
mark_spelled word m e = (bytes_decides (spelling m) word).0 (find_passes (λ n. bytes_eq (spelling n) word) marks m e)

no_mark : (b : ℕ) (bs : List ℕ) → is_other b ≡ false → is_some (mark_of (b ∷ bs)) ≡ false
no_mark b bs e = go (mark_of (b ∷ bs)) refl
  where
    go : (found : Option Mark) → mark_of (b ∷ bs) ≡ found → is_some found ≡ false
    go None h = refl
    go (Some m) h = let k = subst (λ z. begins is_other z ≡ true) (mark_spelled (b ∷ bs) m h) (spelled_other m) in cc

pub no_perl : (b : ℕ) (bs : List ℕ) → is_other b ≡ false → bytes_eq (codes "<%") (b ∷ bs) ≡ false
no_perl b bs e = refute _ (λ h. let s : codes "<%" ≡ b ∷ bs = (bytes_decides (codes "<%") (b ∷ bs)).0 h in let k = subst (λ z. begins is_other z ≡ true) s refl in cc)

-- What has a form.

pub form_of_letter : (b : ℕ) (bs : List ℕ) → is_letter b ≡ true → has_form systemrdl (b ∷ bs) ≡ is_word (b ∷ bs)
unfolding systemrdl
form_of_letter b bs h =
    let o = letter_only b h in
    rw (no_hexadecimal b bs o.2, no_sized b bs o.2, no_mark b bs (rw h refl), no_perl b bs (rw h refl), o.0, o.1, o.2) (or-false _)

pub form_of_backslash : (bs : List ℕ) → has_form systemrdl (92 ∷ bs) ≡ is_word bs
unfolding systemrdl
form_of_backslash bs = rw (no_hexadecimal 92 bs refl, no_sized 92 bs refl, no_mark 92 bs refl, no_perl 92 bs refl) (or-false _)

pub form_of_quote : (bs : List ℕ) → has_form systemrdl (34 ∷ bs) ≡ is_closed false bs
unfolding systemrdl
form_of_quote bs = rw (no_hexadecimal 34 bs refl, no_sized 34 bs refl, no_mark 34 bs refl, no_perl 34 bs refl) (or-false _)

pub form_of_digit : (b : ℕ) (bs : List ℕ) → is_ascii_digit b ≡ true → has_form systemrdl (b ∷ bs) ≡ (is_decimal (b ∷ bs) || (is_hexadecimal (b ∷ bs) || is_sized (b ∷ bs)))
unfolding systemrdl
form_of_digit b bs h =
    let o = digit_only b h in
    rw (no_mark b bs (rw h (not_other _)), no_perl b bs (rw h (not_other _)), o.0, o.1, o.2, or-false) refl
  where
    not_other : (l : Bool) → not (l || true) ≡ false
    not_other true = refl
    not_other false = refl

pub form_of_other : (b : ℕ) (bs : List ℕ) → is_other b ≡ true → has_form systemrdl (b ∷ bs) ≡ (is_some (mark_of (b ∷ bs)) || bytes_eq (codes "<%") (b ∷ bs))
unfolding systemrdl
form_of_other b bs h =
    let o = other_only b h in
    rw (no_hexadecimal b bs o.1, no_sized b bs o.1, o.0, o.1, o.2, o.3, or-false) refl

-- What a lexeme means.

pub letter_means : (b : ℕ) (bs : List ℕ) → is_letter b ≡ true → list_all is_in_word bs ≡ true → meaning_of systemrdl (b ∷ bs) ≡ Some (record { kind = word_kind (b ∷ bs); text = b ∷ bs })
unfolding systemrdl
letter_means b bs h e = rw (h, e) refl

pub backslash_means : (bs : List ℕ) → is_word bs ≡ true → meaning_of systemrdl (92 ∷ bs) ≡ Some (record { kind = kinds.Word; text = bs })
unfolding systemrdl
backslash_means bs h = rw h refl

pub quote_means : (bs : List ℕ) → is_closed false bs ≡ true → meaning_of systemrdl (34 ∷ bs) ≡ Some (record { kind = kinds.Str; text = take (length (34 ∷ bs) - 2) bs })
unfolding systemrdl
quote_means bs h = rw h refl

pub decimal_means : (b : ℕ) (bs : List ℕ) → is_decimal (b ∷ bs) ≡ true → meaning_of systemrdl (b ∷ bs) ≡ number (b ∷ bs) (value_of 64 10 (b ∷ bs))
unfolding systemrdl
decimal_means b bs h =
    let p = and_parts (is_ascii_digit b) (list_all is_in_decimal bs) h in
    let o = digit_only b p.0 in
    rw (o.0, o.1, o.2, p.0, p.1) refl

pub hexadecimal_means : (b : ℕ) (bs : List ℕ) → is_ascii_digit b ≡ true → is_decimal (b ∷ bs) ≡ false → is_hexadecimal (b ∷ bs) ≡ true → meaning_of systemrdl (b ∷ bs) ≡ number (b ∷ bs) (value_of 64 16 (drop 2 (b ∷ bs)))
unfolding systemrdl
hexadecimal_means b bs h d e =
    let o = digit_only b h in
    rw (d, e, o.0, o.1, o.2) refl

pub sized_means : (b : ℕ) (bs : List ℕ) → is_ascii_digit b ≡ true → is_decimal (b ∷ bs) ≡ false → is_hexadecimal (b ∷ bs) ≡ false → is_sized (b ∷ bs) ≡ true
    → meaning_of systemrdl (b ∷ bs) ≡ number (b ∷ bs) (value_of_size (digits_value 10 (digits_of (before_first is_quote (b ∷ bs)))) (after_first is_quote (b ∷ bs)))
unfolding systemrdl
sized_means b bs h d x e =
    let o = digit_only b h in
    rw (d, x, e, o.0, o.1, o.2) refl

pub perl_means : meaning_of systemrdl (codes "<%") ≡ None
unfolding systemrdl marks
perl_means = refl

pub perl_form : has_form systemrdl (codes "<%") ≡ true
unfolding systemrdl marks
perl_form = refl

pub mark_form : (m : Mark) → has_form systemrdl (spelling m) ≡ true
unfolding systemrdl marks
mark_form mark.OpenBrace = refl
mark_form mark.CloseBrace = refl
mark_form mark.OpenBracket = refl
mark_form mark.CloseBracket = refl
mark_form mark.OpenParen = refl
mark_form mark.CloseParen = refl
mark_form mark.Semicolon = refl
mark_form mark.Colon = refl
mark_form mark.Comma = refl
mark_form mark.Dot = refl
mark_form mark.At = refl
mark_form mark.Hash = refl
mark_form mark.Equals = refl
mark_form mark.PlusEquals = refl
mark_form mark.PercentEquals = refl
mark_form mark.Arrow = refl
mark_form mark.Question = refl
mark_form mark.ColonColon = refl
mark_form mark.Not = refl
mark_form mark.Tilde = refl
mark_form mark.Quote = refl
mark_form mark.Plus = refl
mark_form mark.Minus = refl
mark_form mark.Star = refl
mark_form mark.Slash = refl
mark_form mark.Percent = refl
mark_form mark.StarStar = refl
mark_form mark.ShiftLeft = refl
mark_form mark.ShiftRight = refl
mark_form mark.Less = refl
mark_form mark.Greater = refl
mark_form mark.LessEqual = refl
mark_form mark.GreaterEqual = refl
mark_form mark.EqualEqual = refl
mark_form mark.NotEqual = refl
mark_form mark.AndAnd = refl
mark_form mark.OrOr = refl
mark_form mark.And = refl
mark_form mark.Or = refl
mark_form mark.Caret = refl

pub mark_means : (m : Mark) → meaning_of systemrdl (spelling m) ≡ Some (record { kind = kinds.Mark m; text = spelling m })
unfolding systemrdl marks
mark_means mark.OpenBrace = refl
mark_means mark.CloseBrace = refl
mark_means mark.OpenBracket = refl
mark_means mark.CloseBracket = refl
mark_means mark.OpenParen = refl
mark_means mark.CloseParen = refl
mark_means mark.Semicolon = refl
mark_means mark.Colon = refl
mark_means mark.Comma = refl
mark_means mark.Dot = refl
mark_means mark.At = refl
mark_means mark.Hash = refl
mark_means mark.Equals = refl
mark_means mark.PlusEquals = refl
mark_means mark.PercentEquals = refl
mark_means mark.Arrow = refl
mark_means mark.Question = refl
mark_means mark.ColonColon = refl
mark_means mark.Not = refl
mark_means mark.Tilde = refl
mark_means mark.Quote = refl
mark_means mark.Plus = refl
mark_means mark.Minus = refl
mark_means mark.Star = refl
mark_means mark.Slash = refl
mark_means mark.Percent = refl
mark_means mark.StarStar = refl
mark_means mark.ShiftLeft = refl
mark_means mark.ShiftRight = refl
mark_means mark.Less = refl
mark_means mark.Greater = refl
mark_means mark.LessEqual = refl
mark_means mark.GreaterEqual = refl
mark_means mark.EqualEqual = refl
mark_means mark.NotEqual = refl
mark_means mark.AndAnd = refl
mark_means mark.OrOr = refl
mark_means mark.And = refl
mark_means mark.Or = refl
mark_means mark.Caret = refl

-- Perl code begins no mark.

abbrev begins_perl : List ℕ → Bool
begins_perl [] = false
begins_perl (b ∷ []) = false
begins_perl (b ∷ c ∷ bs) = b == 60 && c == 37

no_perl_mark : (m : Mark) → begins_perl (spelling m) ≡ false
no_perl_mark mark.OpenBrace = refl
no_perl_mark _ = refl

pub perl_longest : (more : List ℕ) → has_form systemrdl (60 ∷ 37 ∷ more) ≡ true → more ≡ []
perl_longest more f = go (mark_of (60 ∷ 37 ∷ more)) refl (sym (form_of_other 60 (37 ∷ more) refl) ∙ f)
  where
    go : (found : Option Mark) → mark_of (60 ∷ 37 ∷ more) ≡ found → (is_some found || bytes_eq (codes "<%") (60 ∷ 37 ∷ more)) ≡ true → more ≡ []
    go None e h = let s : codes "<%" ≡ 60 ∷ 37 ∷ more = (bytes_decides (codes "<%") (60 ∷ 37 ∷ more)).0 h in cc
    go (Some m) e h = let k = subst (λ z. begins_perl z ≡ false) (mark_spelled _ m e) (no_perl_mark m) in cc

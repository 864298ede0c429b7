-- The first example spells its tokens.
use Rattle.std.proofs.Common.{◌≡◌, ◌⊎◌, ⊎_elim, inl, inr, ℕ, nat_eq, zero, suc, ◌+◌, ◌-◌, ◌<◌, ◌≤◌, Bool, true, false, Option, Some, None, List, [], ◌∷◌, ◌++◌, codes, length, take, drop, get_or, map, is_some, refl, sym, ap, ◌∙◌, subst, arith}
use Rattle.std.specs.Char.{is_ascii_digit}
use Rattle.std.specs.List.{take_while, starts_with}
use Rattle.std.proofs.lemmas.List.{take_at}
use Rattle.rdl_base.specs.declared.keyword.Keyword.{Keyword}
use Rattle.rdl_base.specs.declared.keyword.Keyword.TheVariants as words
use Rattle.rdl_base.specs.Keywords.{keywords}
use Rattle.rb_grammar.specs.Separators.{Skips, stay, skip, blank, begins_separator}
use Rattle.rb_grammar.specs.Spelling.{At, Spells, SpellsFrom, StartsWith}
use Rattle.rdl_tree.specs.declared.token.Mark.{Mark}
use Rattle.rdl_tree.specs.declared.token.Mark.TheVariants as marks
use Rattle.rdl_tree.specs.declared.token.TokenKind.{TokenKind}
use Rattle.rdl_tree.specs.declared.token.TokenKind.TheVariants as kinds
use Rattle.rdl_tree.specs.Tokens.{spelling, mark_of}
use Rattle.rdl_tree.specs.Tokens as all
use Rattle.rdl_lexer.specs.Lexemes.{Lexeme, is_letter, is_in_word, seen, systemrdl, word_kind}
use Rattle.rdl_lexer.specs.Numbers.{is_based, value_of}
use Rattle.rdl_lexer.specs.Reading.{IsLexeme, IsNumberAt, begins, begins_other}
use Rattle.rdl_lexer.proofs.Fronts.{word_lexeme, mark_lexeme}
use Rattle.rdl_lexer.proofs.NumberFronts.{decimal_number, hexadecimal_number, sized_number}
use Rattle.rdl_lexer.proofs.Steps.{starts_here, ends_here}
use Rattle.rdl_verdict_laws.specs.Example.{first_example}
use Rattle.rdl_verdict_laws.proofs.ExampleTokens.{tokens}

-- A token of a kind, behind so many blanks.

word_here : (place n len : ℕ) (text : List ℕ) (kind : TokenKind) → Skips true text (drop n text) → place + length (drop n text) ≡ 71 → begins_separator true (drop n text) ≡ false → begins is_letter (drop n text) ≡ true
    → len ≡ length (take_while is_in_word (drop n text)) → kind ≡ word_kind (take len (drop n text))
    → StartsWith systemrdl 71 text (record { token = record { kind = kind; text = take len (drop n text) }; place = place }) (drop len (drop n text))
word_here place n len text kind skips at bare letter run means =
    starts_here 71 n place len text (drop n text) (drop len (drop n text)) (take len (drop n text)) kind skips refl at (word_lexeme len (drop n text) kind bare letter run means) refl

-- a mark has one byte, or it is one of those of two bytes
sized : (o : Mark) → (length (spelling o) ≡ 1) ⊎ ((length (spelling o) ≡ 2) × (is_some (mark_of (spelling o)) ≡ true))
unfolding all.marks
sized marks.PlusEquals = inr (refl, refl)
sized marks.PercentEquals = inr (refl, refl)
sized marks.Arrow = inr (refl, refl)
sized marks.ColonColon = inr (refl, refl)
sized marks.StarStar = inr (refl, refl)
sized marks.ShiftLeft = inr (refl, refl)
sized marks.ShiftRight = inr (refl, refl)
sized marks.LessEqual = inr (refl, refl)
sized marks.GreaterEqual = inr (refl, refl)
sized marks.EqualEqual = inr (refl, refl)
sized marks.NotEqual = inr (refl, refl)
sized marks.AndAnd = inr (refl, refl)
sized marks.OrOr = inr (refl, refl)
sized o = inl refl

-- where the first two bytes are no mark, a mark at the front has one byte
longest : (text : List ℕ) → is_some (mark_of (take 2 text)) ≡ false → (o : Mark) (more : List ℕ) → text ≡ spelling o ++ more → length (spelling o) ≤ 1
longest text none o more e = ⊎_elim (λ one. omega (arith, one)) (λ two. absurd (
    let front : take 2 text ≡ spelling o = ap (take 2) e ∙ take_at (spelling o) more 2 two.0 in
    let some : is_some (mark_of (take 2 text)) ≡ true = ap (λ w. is_some (mark_of w)) front ∙ two.1 in
    let wrong : true ≡ false = sym some ∙ none in cc)) (sized o)

mark_here : (place n : ℕ) (text more : List ℕ) (m : Mark) → Skips true text (drop n text) → place + length (drop n text) ≡ 71 → begins_separator true (drop n text) ≡ false → begins_other (drop n text) ≡ true
    → false ≡ starts_with nat_eq (drop n text) (codes "<%") → 1 ≡ length (spelling m) → drop n text ≡ spelling m ++ more → is_some (mark_of (take 2 (drop n text))) ≡ false
    → StartsWith systemrdl 71 text (record { token = record { kind = kinds.Mark m; text = take 1 (drop n text) }; place = place }) (drop 1 (drop n text))
mark_here place n text more m skips at bare other plain one front none =
    starts_here 71 n place 1 text (drop n text) (drop 1 (drop n text)) (take 1 (drop n text)) (kinds.Mark m) skips refl at
    (mark_lexeme 1 (drop n text) m bare other plain one ((more, front), λ o after e. omega (arith, one, longest (drop n text) none o after e))) refl

number_here : (place n len v : ℕ) (text : List ℕ) → Skips true text (drop n text) → place + length (drop n text) ≡ 71 → IsNumberAt (drop n text) len (Some v)
    → StartsWith systemrdl 71 text (record { token = record { kind = kinds.Number v; text = take len (drop n text) }; place = place }) (drop len (drop n text))
number_here place n len v text skips at is =
    starts_here 71 n place len text (drop n text) (drop len (drop n text)) (take len (drop n text)) (kinds.Number v) skips refl at (record { within = is.within; next = is.next; means = is.means }) refl

one_blank : (rest : List ℕ) → Skips true (32 ∷ rest) rest
one_blank rest = skip (32 ∷ []) rest refl (blank refl) stay

abbrev text0 : List ℕ
text0 = codes "addrmap one { reg { field { sw=rw; hw=r; } f[32] = 32'h5; } a @0x0; };\n"

abbrev text1 : List ℕ
text1 = codes " one { reg { field { sw=rw; hw=r; } f[32] = 32'h5; } a @0x0; };\n"

abbrev text2 : List ℕ
text2 = codes " { reg { field { sw=rw; hw=r; } f[32] = 32'h5; } a @0x0; };\n"

abbrev text3 : List ℕ
text3 = codes " reg { field { sw=rw; hw=r; } f[32] = 32'h5; } a @0x0; };\n"

abbrev text4 : List ℕ
text4 = codes " { field { sw=rw; hw=r; } f[32] = 32'h5; } a @0x0; };\n"

abbrev text5 : List ℕ
text5 = codes " field { sw=rw; hw=r; } f[32] = 32'h5; } a @0x0; };\n"

abbrev text6 : List ℕ
text6 = codes " { sw=rw; hw=r; } f[32] = 32'h5; } a @0x0; };\n"

abbrev text7 : List ℕ
text7 = codes " sw=rw; hw=r; } f[32] = 32'h5; } a @0x0; };\n"

abbrev text8 : List ℕ
text8 = codes "=rw; hw=r; } f[32] = 32'h5; } a @0x0; };\n"

abbrev text9 : List ℕ
text9 = codes "rw; hw=r; } f[32] = 32'h5; } a @0x0; };\n"

abbrev text10 : List ℕ
text10 = codes "; hw=r; } f[32] = 32'h5; } a @0x0; };\n"

abbrev text11 : List ℕ
text11 = codes " hw=r; } f[32] = 32'h5; } a @0x0; };\n"

abbrev text12 : List ℕ
text12 = codes "=r; } f[32] = 32'h5; } a @0x0; };\n"

abbrev text13 : List ℕ
text13 = codes "r; } f[32] = 32'h5; } a @0x0; };\n"

abbrev text14 : List ℕ
text14 = codes "; } f[32] = 32'h5; } a @0x0; };\n"

abbrev text15 : List ℕ
text15 = codes " } f[32] = 32'h5; } a @0x0; };\n"

abbrev text16 : List ℕ
text16 = codes " f[32] = 32'h5; } a @0x0; };\n"

abbrev text17 : List ℕ
text17 = codes "[32] = 32'h5; } a @0x0; };\n"

abbrev text18 : List ℕ
text18 = codes "32] = 32'h5; } a @0x0; };\n"

abbrev text19 : List ℕ
text19 = codes "] = 32'h5; } a @0x0; };\n"

abbrev text20 : List ℕ
text20 = codes " = 32'h5; } a @0x0; };\n"

abbrev text21 : List ℕ
text21 = codes " 32'h5; } a @0x0; };\n"

abbrev text22 : List ℕ
text22 = codes "; } a @0x0; };\n"

abbrev text23 : List ℕ
text23 = codes " } a @0x0; };\n"

abbrev text24 : List ℕ
text24 = codes " a @0x0; };\n"

abbrev text25 : List ℕ
text25 = codes " @0x0; };\n"

abbrev text26 : List ℕ
text26 = codes "0x0; };\n"

abbrev text27 : List ℕ
text27 = codes "; };\n"

abbrev text28 : List ℕ
text28 = codes " };\n"

abbrev text29 : List ℕ
text29 = codes ";\n"

abbrev text30 : List ℕ
text30 = codes "\n"

-- The three numbers.

not_quote : (rest : List ℕ) → codes "] = 32'h5; } a @0x0; };\n" ≡ 39 ∷ rest → ⊥
not_quote rest e = let h : 93 ≡ 39 = ap (λ xs. get_or xs 0 0) e in absurd (omega (arith, h))

thirty_two : IsNumberAt (drop 0 text18) 2 (Some 32)
unfolding value_of
thirty_two = decimal_number 2 text18 (Some 32) refl refl refl refl not_quote refl

zero_ : IsNumberAt text26 3 (Some 0)
unfolding value_of
zero_ = hexadecimal_number 1 text26 (Some 0) refl refl refl refl

-- h5 is all of the digits behind the quote
based_ends : (x y z : ℕ) (zs : List ℕ) → x ≡ 104 → y ≡ 53 → z ≡ 59 → is_based (x ∷ y ∷ z ∷ zs) ≡ true → ⊥
based_ends x y z zs a b c h =
    let at_x : is_based (104 ∷ y ∷ z ∷ zs) ≡ true = subst (λ q. is_based (q ∷ y ∷ z ∷ zs) ≡ true) a h in
    let at_y : is_based (104 ∷ 53 ∷ z ∷ zs) ≡ true = subst (λ q. is_based (104 ∷ q ∷ z ∷ zs) ≡ true) b at_x in
    let at_z : is_based (104 ∷ 53 ∷ 59 ∷ zs) ≡ true = subst (λ q. is_based (104 ∷ 53 ∷ q ∷ zs) ≡ true) c at_y in
    let wrong : false ≡ true = at_z in cc

abbrev behind_quote : List ℕ
behind_quote = codes "h5; } a @0x0; };\n"

based_longest : (other after : List ℕ) → behind_quote ≡ other ++ after → is_based other ≡ true → length other ≤ 2
based_longest [] after e h = omega arith
based_longest (x ∷ []) after e h = omega arith
based_longest (x ∷ y ∷ []) after e h = omega arith
based_longest (x ∷ y ∷ z ∷ zs) after e h = absurd (based_ends x y z zs (sym (ap (λ l. get_or l 0 0) e)) (sym (ap (λ l. get_or l 1 0) e)) (sym (ap (λ l. get_or l 2 0) e)) h)

five : IsNumberAt (drop 1 text21) 5 (Some 5)
unfolding value_of
five = sized_number 2 2 (drop 1 text21) (Some 5) refl refl refl refl (λ e. absurd (omega (arith, e))) refl (omega arith) refl based_longest refl

ends : SpellsFrom systemrdl 71 text30 []
ends = (ends_here 1 text30 [] (skip (10 ∷ []) [] refl (blank refl) stay) refl refl).0

from29 : SpellsFrom systemrdl 71 text29 (map seen (drop 29 tokens))
unfolding all.marks keywords
from29 = (text30, mark_here 69 0 text29 text30 marks.Semicolon stay refl refl refl refl refl refl refl, ends)

from28 : SpellsFrom systemrdl 71 text28 (map seen (drop 28 tokens))
unfolding all.marks keywords
from28 = (text29, mark_here 68 1 text28 text29 marks.CloseBrace (one_blank (drop 1 text28)) refl refl refl refl refl refl refl, from29)

from27 : SpellsFrom systemrdl 71 text27 (map seen (drop 27 tokens))
unfolding all.marks keywords
from27 = (text28, mark_here 66 0 text27 text28 marks.Semicolon stay refl refl refl refl refl refl refl, from28)

from26 : SpellsFrom systemrdl 71 text26 (map seen (drop 26 tokens))
unfolding all.marks keywords
from26 = (text27, number_here 63 0 3 0 text26 stay refl zero_, from27)

from25 : SpellsFrom systemrdl 71 text25 (map seen (drop 25 tokens))
unfolding all.marks keywords
from25 = (text26, mark_here 62 1 text25 text26 marks.At (one_blank (drop 1 text25)) refl refl refl refl refl refl refl, from26)

from24 : SpellsFrom systemrdl 71 text24 (map seen (drop 24 tokens))
unfolding all.marks keywords
from24 = (text25, word_here 60 1 1 text24 kinds.Word (one_blank (drop 1 text24)) refl refl refl refl refl, from25)

from23 : SpellsFrom systemrdl 71 text23 (map seen (drop 23 tokens))
unfolding all.marks keywords
from23 = (text24, mark_here 58 1 text23 text24 marks.CloseBrace (one_blank (drop 1 text23)) refl refl refl refl refl refl refl, from24)

from22 : SpellsFrom systemrdl 71 text22 (map seen (drop 22 tokens))
unfolding all.marks keywords
from22 = (text23, mark_here 56 0 text22 text23 marks.Semicolon stay refl refl refl refl refl refl refl, from23)

from21 : SpellsFrom systemrdl 71 text21 (map seen (drop 21 tokens))
unfolding all.marks keywords
from21 = (text22, number_here 51 1 5 5 text21 (one_blank (drop 1 text21)) refl five, from22)

from20 : SpellsFrom systemrdl 71 text20 (map seen (drop 20 tokens))
unfolding all.marks keywords
from20 = (text21, mark_here 49 1 text20 text21 marks.Equals (one_blank (drop 1 text20)) refl refl refl refl refl refl refl, from21)

from19 : SpellsFrom systemrdl 71 text19 (map seen (drop 19 tokens))
unfolding all.marks keywords
from19 = (text20, mark_here 47 0 text19 text20 marks.CloseBracket stay refl refl refl refl refl refl refl, from20)

from18 : SpellsFrom systemrdl 71 text18 (map seen (drop 18 tokens))
unfolding all.marks keywords
from18 = (text19, number_here 45 0 2 32 text18 stay refl thirty_two, from19)

from17 : SpellsFrom systemrdl 71 text17 (map seen (drop 17 tokens))
unfolding all.marks keywords
from17 = (text18, mark_here 44 0 text17 text18 marks.OpenBracket stay refl refl refl refl refl refl refl, from18)

from16 : SpellsFrom systemrdl 71 text16 (map seen (drop 16 tokens))
unfolding all.marks keywords
from16 = (text17, word_here 43 1 1 text16 kinds.Word (one_blank (drop 1 text16)) refl refl refl refl refl, from17)

from15 : SpellsFrom systemrdl 71 text15 (map seen (drop 15 tokens))
unfolding all.marks keywords
from15 = (text16, mark_here 41 1 text15 text16 marks.CloseBrace (one_blank (drop 1 text15)) refl refl refl refl refl refl refl, from16)

from14 : SpellsFrom systemrdl 71 text14 (map seen (drop 14 tokens))
unfolding all.marks keywords
from14 = (text15, mark_here 39 0 text14 text15 marks.Semicolon stay refl refl refl refl refl refl refl, from15)

from13 : SpellsFrom systemrdl 71 text13 (map seen (drop 13 tokens))
unfolding all.marks keywords
from13 = (text14, word_here 38 0 1 text13 (kinds.Reserved words.R) stay refl refl refl refl refl, from14)

from12 : SpellsFrom systemrdl 71 text12 (map seen (drop 12 tokens))
unfolding all.marks keywords
from12 = (text13, mark_here 37 0 text12 text13 marks.Equals stay refl refl refl refl refl refl refl, from13)

from11 : SpellsFrom systemrdl 71 text11 (map seen (drop 11 tokens))
unfolding all.marks keywords
from11 = (text12, word_here 35 1 2 text11 kinds.Word (one_blank (drop 1 text11)) refl refl refl refl refl, from12)

from10 : SpellsFrom systemrdl 71 text10 (map seen (drop 10 tokens))
unfolding all.marks keywords
from10 = (text11, mark_here 33 0 text10 text11 marks.Semicolon stay refl refl refl refl refl refl refl, from11)

from9 : SpellsFrom systemrdl 71 text9 (map seen (drop 9 tokens))
unfolding all.marks keywords
from9 = (text10, word_here 31 0 2 text9 (kinds.Reserved words.Rw) stay refl refl refl refl refl, from10)

from8 : SpellsFrom systemrdl 71 text8 (map seen (drop 8 tokens))
unfolding all.marks keywords
from8 = (text9, mark_here 30 0 text8 text9 marks.Equals stay refl refl refl refl refl refl refl, from9)

from7 : SpellsFrom systemrdl 71 text7 (map seen (drop 7 tokens))
unfolding all.marks keywords
from7 = (text8, word_here 28 1 2 text7 kinds.Word (one_blank (drop 1 text7)) refl refl refl refl refl, from8)

from6 : SpellsFrom systemrdl 71 text6 (map seen (drop 6 tokens))
unfolding all.marks keywords
from6 = (text7, mark_here 26 1 text6 text7 marks.OpenBrace (one_blank (drop 1 text6)) refl refl refl refl refl refl refl, from7)

from5 : SpellsFrom systemrdl 71 text5 (map seen (drop 5 tokens))
unfolding all.marks keywords
from5 = (text6, word_here 20 1 5 text5 (kinds.Reserved words.Field) (one_blank (drop 1 text5)) refl refl refl refl refl, from6)

from4 : SpellsFrom systemrdl 71 text4 (map seen (drop 4 tokens))
unfolding all.marks keywords
from4 = (text5, mark_here 18 1 text4 text5 marks.OpenBrace (one_blank (drop 1 text4)) refl refl refl refl refl refl refl, from5)

from3 : SpellsFrom systemrdl 71 text3 (map seen (drop 3 tokens))
unfolding all.marks keywords
from3 = (text4, word_here 14 1 3 text3 (kinds.Reserved words.Reg) (one_blank (drop 1 text3)) refl refl refl refl refl, from4)

from2 : SpellsFrom systemrdl 71 text2 (map seen (drop 2 tokens))
unfolding all.marks keywords
from2 = (text3, mark_here 12 1 text2 text3 marks.OpenBrace (one_blank (drop 1 text2)) refl refl refl refl refl refl refl, from3)

from1 : SpellsFrom systemrdl 71 text1 (map seen (drop 1 tokens))
unfolding all.marks keywords
from1 = (text2, word_here 8 1 3 text1 kinds.Word (one_blank (drop 1 text1)) refl refl refl refl refl, from2)

from0 : SpellsFrom systemrdl 71 text0 (map seen (drop 0 tokens))
unfolding all.marks keywords
from0 = (text1, word_here 0 0 7 text0 (kinds.Reserved words.Addrmap) stay refl refl refl refl refl, from1)

pub tokens_spelled : Spells systemrdl first_example (map seen tokens)
tokens_spelled = from0

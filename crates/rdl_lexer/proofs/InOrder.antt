-- The tokens of a text stand at rising places, and their names are words.
use Rattle.std.proofs.Common.{◌≡◌, ◌∙◌, ℕ, ◌+◌, ◌≤◌, Bool, true, false, IsTrue, if◌then◌else◌, Option, None, Some, List, [], ◌∷◌, length, map, option_map, refl, ap, subst, arith, length-append}
use Rattle.std.proofs.lemmas.Bool.{and_parts}
use Rattle.rb_grammar.specs.Lexemes.{Class, has_form, meaning_among}
use Rattle.rb_grammar.specs.Separators.{Skips, stay, skip}
use Rattle.rb_grammar.specs.Spelling.{Spells, SpellsFrom}
use Rattle.rdl_tree.specs.declared.token.Mark.{Mark}
use Rattle.rdl_tree.specs.declared.token.Token.{Token}
use Rattle.rdl_tree.specs.declared.token.TokenKind.TheVariants as kinds
use Rattle.rdl_tree.specs.InOrder.{PlacesRiseFrom, NamesAreWords}
use Rattle.rdl_tree.specs.Tokens.{mark_of}
use Rattle.rdl_tree.specs.Words.{is_word}
use Rattle.rdl_lexer.specs.Lexemes.{Lexeme, seen, is_backslash, number, words, names, strings, marks, systemrdl}

-- what is left behind separators is no longer than the text
no_longer : {comments : Bool} {text left : List ℕ} → Skips comments text left → length left ≤ length text
no_longer stay = omega arith
no_longer {text = text} (skip separator rest e s more) =
    let l = no_longer more in
    let sizes = ap length e ∙ length-append separator rest in
    omega (arith, l, sizes)

has_bytes : (word : List ℕ) → IsTrue (has_form systemrdl word) → 1 ≤ length word
has_bytes [] h = cc
has_bytes (b ∷ bs) h = omega arith

rise : (size k : ℕ) (text : List ℕ) (ts : List Token) → k + length text ≤ size → SpellsFrom systemrdl size text (map seen ts) → PlacesRiseFrom k ts
rise size k text [] l s = tt
rise size k text (t ∷ ts) l (rest, start, more) =
    let shorter = no_longer start.skips in
    let bytes = has_bytes start.word start.next.form in
    let sizes = ap length start.next.whole ∙ length-append start.word rest in
    let at = start.at in
    (omega (arith, l, shorter, at), rise size (t.place.0 + 1) rest ts (omega (arith, bytes, sizes, at)) more)

-- a lexeme that means a name has a word as its text
abbrev MeansWord : Option Lexeme → Type 0
MeansWord None = Unit {0}
MeansWord (Some t) = t.kind ≡ kinds.Word → IsTrue (is_word t.text)

abbrev Gives : Class Lexeme → Type 0
Gives c = (word : List ℕ) → c.form word ≡ true → MeansWord (c.meaning word)

abbrev AllGive : List (Class Lexeme) → Type 0
AllGive [] = Unit {0}
AllGive (c ∷ cs) = Gives c × AllGive cs

words_give : Gives words
words_give word h e = h

names_give : Gives names
names_give [] h = cc
names_give (b ∷ bs) h = λ e. (and_parts (is_backslash b) (is_word bs) h).1

strings_give : Gives strings
strings_give word h = λ e. cc

number_gives : (word : List ℕ) (value : Option ℕ) → MeansWord (number word value)
number_gives word None = tt
number_gives word (Some n) = λ e. cc

marks_give : Gives marks
marks_give word h = go (mark_of word)
  where
    go : (found : Option Mark) → MeansWord (option_map (λ m. record { kind = kinds.Mark m; text = word }) found)
    go None = tt
    go (Some m) = λ e. cc

all_give : (cs : List (Class Lexeme)) (word : List ℕ) → AllGive cs → MeansWord (meaning_among cs word)
all_give [] word g = tt
all_give (c ∷ cs) word g = go (c.form word) refl (all_give cs word g.1)
  where
    go : (b : Bool) → c.form word ≡ b → MeansWord (meaning_among cs word) → MeansWord (if b then c.meaning word else meaning_among cs word)
    go true e rest = g.0 word e
    go false e rest = rest

lexeme_gives : (word : List ℕ) → MeansWord (meaning_among systemrdl.classes word)
unfolding systemrdl
lexeme_gives word = all_give systemrdl.classes word (words_give, (names_give, (strings_give, ((λ w h. number_gives w _), ((λ w h. number_gives w _), ((λ w h. number_gives w _), (marks_give, ((λ w h. tt), tt))))))))

named : (size : ℕ) (text : List ℕ) (ts : List Token) → SpellsFrom systemrdl size text (map seen ts) → NamesAreWords ts
named size text [] s = tt
named size text (t ∷ ts) (rest, start, more) = (subst MeansWord start.means (lexeme_gives start.word), named size rest ts more)

pub places_rise : (text : List ℕ) (ts : List Token) → Spells systemrdl text (map seen ts) → PlacesRiseFrom 0 ts
places_rise text ts s = rise (length text) 0 text ts (omega arith) s

pub names_are_words : (text : List ℕ) (ts : List Token) → Spells systemrdl text (map seen ts) → NamesAreWords ts
names_are_words text ts s = named (length text) text ts s

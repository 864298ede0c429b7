-- The lexemes of a source (SystemRDL 2.0, clause 4).
use Rattle.std.specs.Char.{is_ascii_digit}
use Rattle.std.specs.List.{before_first, after_first}
use Rattle.std.specs.Option.{option_map, option_map_or}
use Rattle.std.specs.Str.{bytes_eq}
use Rattle.std.specs.Str.Parse.{digits_value}
use Rattle.std.specs.Prelude.{ℕ, ◌-◌, Bool, true, false, not, ◌&&◌, ◌||◌, ◌==◌, if◌then◌else◌, is_some, Option, Some, None, List, [], ◌∷◌, length, take, drop, codes}
use Rattle.rb_grammar.specs.Lexemes.{Class, Lexicon}
use Rattle.rb_grammar.specs.Spelling.{At}
use Rattle.rdl_tree.specs.declared.token.TokenKind.{TokenKind}
use Rattle.rdl_tree.specs.declared.token.TokenKind.TheVariants as kinds
use Rattle.rdl_tree.specs.declared.token.Token.{Token}
use Rattle.rdl_tree.specs.Tokens.{mark_of, keyword_of}
use Rattle.rdl_lexer.specs.Numbers.{is_quote, is_decimal, is_hexadecimal, is_sized, digits_of, value_of, value_of_size, decimal_value}
pub use Rattle.rdl_tree.specs.Words.{is_letter, is_in_word, is_word}

-- a token apart from its place
pub record Lexeme : Type 0 where
  pub kind : TokenKind
  pub text : List ℕ

abbrev pub seen : Token → At Lexeme
seen t = record { token = record { kind = t.kind; text = t.text.now }; place = t.place.0 }

abbrev pub is_backslash : ℕ → Bool
is_backslash b = b == 92

-- a word behind \
abbrev pub is_escaped : List ℕ → Bool
is_escaped [] = false
is_escaped (b ∷ bs) = is_backslash b && is_word bs

abbrev pub is_string_quote : ℕ → Bool
is_string_quote b = b == 34

-- a byte that begins no word, number or string
abbrev pub is_other : ℕ → Bool
is_other b = not (is_letter b || (is_ascii_digit b || (is_backslash b || is_string_quote b)))

-- its last byte is its first " that no \ takes; whether a \ takes its first byte
abbrev pub is_closed : Bool → List ℕ → Bool
is_closed taken [] = false
is_closed true (b ∷ bs) = is_closed false bs
is_closed false (b ∷ bs) = if is_string_quote b then is_empty bs else is_closed (is_backslash b) bs
  where
    is_empty : List ℕ → Bool
    is_empty [] = true
    is_empty (b ∷ bs) = false

-- ", then a text that another " closes
abbrev pub is_string : List ℕ → Bool
is_string [] = false
is_string (b ∷ bs) = is_string_quote b && is_closed false bs

-- a word is reserved or a name
abbrev pub word_kind : List ℕ → TokenKind
word_kind word = option_map_or kinds.Reserved (keyword_of word) kinds.Word

abbrev pub number : List ℕ → Option ℕ → Option Lexeme
number word value = option_map (λ n. record { kind = kinds.Number n; text = word }) value

abbrev pub words : Class Lexeme
words = record { form = is_word; meaning = λ word. Some (record { kind = word_kind word; text = word }) }

abbrev pub names : Class Lexeme
names = record { form = is_escaped; meaning = λ word. Some (record { kind = kinds.Word; text = drop 1 word }) }

abbrev pub strings : Class Lexeme
strings = record { form = is_string; meaning = λ word. Some (record { kind = kinds.Str; text = take (length word - 2) (drop 1 word) }) }

abbrev pub decimals : Class Lexeme
decimals = record { form = is_decimal; meaning = λ word. number word (decimal_value word) }

abbrev pub hexadecimals : Class Lexeme
hexadecimals = record { form = is_hexadecimal; meaning = λ word. number word (value_of 64 16 (drop 2 word)) }

abbrev pub sized_numbers : Class Lexeme
sized_numbers = record {
  form = is_sized;
  meaning = λ word. number word (value_of_size (digits_value 10 (digits_of (before_first is_quote word))) (after_first is_quote word));
}

abbrev pub marks : Class Lexeme
marks = record { form = λ word. is_some (mark_of word); meaning = λ word. option_map (λ m. record { kind = kinds.Mark m; text = word }) (mark_of word) }

-- <% begins Perl code, which is no token (SystemRDL 2.0, clause 16)
abbrev pub perl : Class Lexeme
perl = record { form = bytes_eq (codes "<%"); meaning = λ word. None }

unfoldable pub systemrdl : Lexicon Lexeme
systemrdl = record {
  comments = true;
  classes = words ∷ names ∷ strings ∷ decimals ∷ hexadecimals ∷ sized_numbers ∷ marks ∷ perl ∷ [];
}

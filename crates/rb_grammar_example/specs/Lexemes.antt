-- The lexemes of the language.
use Rattle.std.specs.Str.Parse.{digits_value}
use Rattle.std.specs.List.{list_all}
use Rattle.std.specs.Char.{is_ascii_digit, is_ascii_alphabetic}
use Rattle.std.specs.Option.{option_map}
use Rattle.std.specs.Prelude.{ℕ, ◌^◌, Bool, true, false, ◌&&◌, ◌||◌, ◌==◌, nat_lt, if◌then◌else◌, is_some, Option, Some, None, List, [], ◌∷◌, codes}
use Rattle.rb_grammar.specs.Lexemes.{Lexicon, spelled}
use Rattle.rb_grammar.specs.Spelling.{At}
use Rattle.rb_grammar_example.specs.declared.token.Mark.{Mark}
use Rattle.rb_grammar_example.specs.declared.token.Mark.TheVariants.{Equals, Arrow, To, Open, Close, Comma, Semicolon}
use Rattle.rb_grammar_example.specs.declared.token.TokenKind.{TokenKind}
use Rattle.rb_grammar_example.specs.declared.token.TokenKind.TheVariants as kinds
use Rattle.rb_grammar_example.specs.declared.token.Token.{Token}

-- a token apart from its place
pub record Lexeme : Type 0 where
  pub kind : TokenKind
  pub text : List ℕ

abbrev pub seen : Token → At Lexeme
seen t = record { token = record { kind = t.kind; text = t.text.now }; place = t.place.0 }

abbrev pub is_start : ℕ → Bool
is_start b = is_ascii_alphabetic b || b == 95

abbrev pub is_in_name : ℕ → Bool
is_in_name b = is_start b || is_ascii_digit b

-- a letter or _, then letters, digits and _
abbrev pub is_name : List ℕ → Bool
is_name [] = false
is_name (b ∷ bs) = is_start b && list_all is_in_name bs

abbrev pub is_number : List ℕ → Bool
is_number [] = false
is_number (b ∷ bs) = list_all is_ascii_digit (b ∷ bs)

abbrev pub spelling : Mark → List ℕ
spelling Equals = codes "="
spelling Arrow = codes "=>"
spelling To = codes ".."
spelling Open = codes "["
spelling Close = codes "]"
spelling Comma = codes ","
spelling Semicolon = codes ";"

abbrev pub marks : List Mark
marks = Equals ∷ Arrow ∷ To ∷ Open ∷ Close ∷ Comma ∷ Semicolon ∷ []

-- the mark with this spelling
unfoldable pub mark_of : List ℕ → Option Mark
mark_of word = spelled spelling marks word

abbrev pub name_of : List ℕ → Option Lexeme
name_of word = Some (record { kind = kinds.Name; text = word })

-- a number of 64 bits
abbrev pub number_of : List ℕ → Option Lexeme
number_of word = if nat_lt (digits_value 10 word) (2 ^ 64) then Some (record { kind = kinds.Number (digits_value 10 word); text = word }) else None

abbrev pub settings : Lexicon Lexeme
settings = record {
  comments = true;
  classes =
      record { form = is_name; meaning = name_of }
      ∷ record { form = is_number; meaning = number_of }
      ∷ record { form = λ word. is_some (mark_of word); meaning = λ word. option_map (λ m. record { kind = kinds.Mark m; text = word }) (mark_of word) }
      ∷ [];
}

-- The lexemes of a module, as a table of their classes, and how a text is spelled (IEEE 1364-2005, clause 3).
use Rattle.std.specs.Char.{is_ascii_digit, is_ascii_alphabetic, digit_value}
use Rattle.std.specs.List.{list_all, list_any, before_first, after_first}
use Rattle.std.specs.Option.{option_map_or}
use Rattle.std.specs.Str.{bytes_eq}
use Rattle.std.specs.Str.Parse.{digits_value}
use Rattle.std.specs.Prelude.{◌≡◌, ℕ, ◌^◌, Bool, true, false, ◌&&◌, ◌||◌, ◌==◌, nat_le, nat_lt, if◌then◌else◌, Option, Some, None, option_and_then, List, [], ◌∷◌, codes, map}
use Rattle.rb_grammar.specs.Lexemes.{Class, Lexicon}
use Rattle.rb_grammar.specs.Spelling.{At}
use Rattle.rb_grammar.specs.Spelling as spelling

-- a word or mark of the grammar, an identifier, a number, or a constant of a width and a value
pub data Token : Type 0 where
  Word : List ℕ → Token
  Name : List ℕ → Token
  Number : ℕ → Token
  Const : ℕ → ℕ → Token

-- a text is one of these
abbrev pub among : List (List ℕ) → List ℕ → Bool
among words word = list_any (λ w. bytes_eq w word) words

-- a letter or _
abbrev pub is_name_start : ℕ → Bool
is_name_start b = is_ascii_alphabetic b || b == 95

-- a letter, a digit, _ or $
abbrev pub is_name_byte : ℕ → Bool
is_name_byte b = is_name_start b || is_ascii_digit b || b == 36

-- a simple identifier, or a reserved word (clause 3.7)
abbrev pub is_name : List ℕ → Bool
is_name [] = false
is_name (b ∷ bs) = is_name_start b && list_all is_name_byte bs

-- the words of the grammar (this project's list)
abbrev pub reserved_words : List (List ℕ)
reserved_words = map codes ("module" ∷ "input" ∷ "output" ∷ "wire" ∷ "reg" ∷ "assign" ∷ "always"
    ∷ "posedge" ∷ "negedge" ∷ "or" ∷ "if" ∷ "else" ∷ "endmodule" ∷ [])

-- the marks of the grammar (this project's list)
abbrev pub marks : List (List ℕ)
marks = map codes ("(" ∷ ")" ∷ "[" ∷ "]" ∷ "{" ∷ "}" ∷ ";" ∷ ":" ∷ "," ∷ "@" ∷ "?" ∷ "!" ∷ "~" ∷ "&" ∷ "|" ∷ "^"
    ∷ "+" ∷ "-" ∷ "=" ∷ "==" ∷ "!=" ∷ "<" ∷ "<=" ∷ ">" ∷ ">=" ∷ [])

-- digits, of which the first is no 0 unless it stands alone (this project's rule)
abbrev pub is_decimal : List ℕ → Bool
is_decimal [] = false
is_decimal (b ∷ []) = is_ascii_digit b
is_decimal (b ∷ c ∷ bs) = is_ascii_digit b && nat_lt 48 b && is_ascii_digit c && list_all is_ascii_digit bs

abbrev pub is_quote : ℕ → Bool
is_quote b = b == 39

-- the base that a letter names: h, d or b (clause 3.5.1)
abbrev pub base_of : ℕ → Option ℕ
base_of b = if b == 104 then Some 16 else (if b == 100 then Some 10 else (if b == 98 then Some 2 else None))

-- digits of this base, at least one
abbrev pub is_numeral : ℕ → List ℕ → Bool
is_numeral base [] = false
is_numeral base (d ∷ ds) = list_all (λ b. nat_lt (digit_value b) base) (d ∷ ds)

-- the letter of a base, and digits of that base
abbrev pub is_based : List ℕ → Bool
is_based [] = false
is_based (b ∷ digits) = option_map_or (λ base. is_numeral base digits) (base_of b) false

-- a size, ', the letter of a base, and digits of that base (clause 3.5.1)
abbrev pub is_constant : List ℕ → Bool
is_constant word = is_decimal (before_first is_quote word) && is_based (after_first is_quote word)

-- a constant has a width of 1 to 128 and a value within it (this project's rule)
abbrev pub constant : (width value : ℕ) → Option Token
constant width value = if nat_le 1 width && nat_le width 128 && nat_lt value (2 ^ width) then Some (Const width value) else None

-- the constant of this width with the value of the digits behind the letter of their base
abbrev pub constant_of : (width : ℕ) → List ℕ → Option Token
constant_of width [] = None
constant_of width (b ∷ digits) = option_and_then (λ base. constant width (digits_value base digits)) (base_of b)

abbrev pub names_and_words : Class Token
names_and_words = record { form = is_name; meaning = λ word. Some (if among reserved_words word then Word word else Name word) }

abbrev pub operators_and_marks : Class Token
operators_and_marks = record { form = among marks; meaning = λ word. Some (Word word) }

abbrev pub decimals : Class Token
decimals = record { form = is_decimal; meaning = λ word. Some (Number (digits_value 10 word)) }

abbrev pub constants : Class Token
constants = record {
  form = is_constant;
  meaning = λ word. constant_of (digits_value 10 (before_first is_quote word)) (after_first is_quote word);
}

-- the lexemes, between which blanks and comments stand (clauses 3.2 and 3.3)
unfoldable pub verilog : Lexicon Token
verilog = record { comments = true; classes = names_and_words ∷ operators_and_marks ∷ decimals ∷ constants ∷ [] }

-- the text is separators and lexemes in turn, each the longest where it stands, and these are its tokens
abbrev pub Spells : List ℕ → List Token → Type 0
Spells text tokens = (placed : List (At Token)) × spelling.Spells verilog text placed × (spelling.tokens_of placed ≡ tokens)

-- How far a text has been read, and what stands at the front of what is left.
use Rattle.std.specs.Prelude.{◌≡◌, ℕ, ◌<◌, ◌≤◌, Bool, false, not, ◌&&◌, ◌||◌, ◌==◌, nat_lt, if◌then◌else◌, IsTrue, Option, Some, List, [], ◌∷◌, ◌++◌, length, take, drop}
use Rattle.std.specs.Char.{digit_value}
use Rattle.rb_grammar.specs.Lexemes.{meaning_of}
use Rattle.rb_grammar.specs.Spelling.{IsPlace, IsNext, IsFault, Fault, FailsAt}
use Rattle.v_design.specs.Lexemes.{among, is_name, is_name_start, reserved_words, marks, is_decimal, is_quote, is_based, is_constant, constant_of, verilog}
use Rattle.v_design.specs.Lexemes as token
use Rattle.v_syntax.specs.Tokens.{token_of, text_of}
use Rattle.v_syntax.specs.declared.token.VKind.{VKind}
use Rattle.v_syntax.specs.declared.token.VKind.TheVariants as kinds
use Rattle.v_syntax.specs.declared.token.VToken.{VToken}
use Rattle.v_syntax.specs.declared.spot.VClass.{VClass}
use Rattle.v_syntax.specs.declared.spot.VClass.TheVariants as classes
use Rattle.v_syntax.specs.declared.spot.VSpot.{VSpot}
use Rattle.v_syntax.specs.declared.token.VSpelling.{VSpelling}

-- how many bytes the text has, what is left of it, and the fault that was answered, if one was
pub record Reading : Type 0 where
  pub size : ℕ
  pub rest : List ℕ
  pub fault : Option VSpelling

-- the class of a kind of token
abbrev pub class_of : VKind → VClass
class_of kinds.Id = classes.Id
class_of kinds.Dec = classes.Dec
class_of (kinds.Const width value) = classes.Const
class_of kinds.Word = classes.Word
class_of kinds.Mark = classes.Mark

-- the bytes are a lexeme of this class
abbrev pub is_of_class : VClass → List ℕ → Bool
is_of_class classes.Id word = is_name word && not (among reserved_words word)
is_of_class classes.Dec word = is_decimal word
is_of_class classes.Const word = is_constant word
is_of_class classes.Word word = among reserved_words word
is_of_class classes.Mark word = among marks word

abbrev pub is_of_kind : VKind → List ℕ → Bool
is_of_kind kind word = is_of_class (class_of kind) word

-- the word stands in the text before the rest, and at this place of a text of this size
pub record StandsAt (size : ℕ) (text word rest : List ℕ) (place : ℕ) : Type 0 where
  pub gap : List ℕ
  pub whole : text ≡ gap ++ (word ++ rest)
  pub at : IsPlace size (word ++ rest) place

-- behind separators no token comes next, for some reason, at this place
abbrev pub HasFaultAt : (size : ℕ) → List ℕ → (place : ℕ) → Type 0
HasFaultAt size text place = (f : Fault) × FailsAt verilog size text f place

-- the token is of the kind of its text
abbrev pub IsOfItsKind : VToken → Type 0
IsOfItsKind t = IsTrue (is_of_kind t.kind t.text.now)

-- the token is what its text means
abbrev pub IsMeant : VToken → Type 0
IsMeant t = meaning_of verilog t.text.now ≡ Some (token_of t.kind t.text.now)

-- the token as a spot of a text
abbrev pub spot_of : VToken → VSpot
spot_of t = record { place = t.place; len = length t.text.now; class = class_of t.kind }

-- the spot is of the class of its bytes
abbrev pub IsOfItsClass : List ℕ → VSpot → Type 0
IsOfItsClass bytes s = IsTrue (is_of_class s.class (text_of bytes s))

-- the first byte passes the test
abbrev pub begins : (ℕ → Bool) → List ℕ → Bool
begins test [] = false
begins test (b ∷ bs) = test b

-- the lexeme at the front is so many bytes, and means a token of this kind
pub record IsLexeme (left : List ℕ) (len : ℕ) (kind : VKind) : Type 0 where
  pub within : len ≤ length left
  pub next : IsNext verilog left (take len left) (drop len left)
  pub means : meaning_of verilog (take len left) ≡ Some (token_of kind (take len left))
  pub of_kind : IsTrue (is_of_kind kind (take len left))

-- no token stands at the front, for some reason
abbrev pub HasFault : List ℕ → Type 0
HasFault left = (f : Fault) × IsFault verilog left f

-- a word is reserved or a name
abbrev pub word_kind : List ℕ → VKind
word_kind word = if among reserved_words word then kinds.Word else kinds.Id

-- a mark of two bytes stands at the front, =, !, < or > before =
abbrev pub begins_double : List ℕ → Bool
begins_double [] = false
begins_double (b ∷ []) = false
begins_double (b ∷ c ∷ bs) = (b == 61 || b == 33 || b == 60 || b == 62) && c == 61

-- the marks of one byte
abbrev pub is_single : ℕ → Bool
is_single b = b == 40 || b == 41 || b == 91 || b == 93 || b == 123 || b == 125 || b == 59 || b == 58 || b == 44 || b == 64 || b == 63
    || b == 33 || b == 126 || b == 38 || b == 124 || b == 94 || b == 43 || b == 45 || b == 61 || b == 60 || b == 62

-- so many bytes at the front are the longest mark there, 0 where none begins
pub record IsMarkLen (text : List ℕ) (len : ℕ) : Type 0 where
  pub within : len ≤ length text
  pub found : 0 < len → IsTrue (among marks (take len text))
  pub longest : (other after : List ℕ) → text ≡ other ++ after → IsTrue (among marks other) → length other ≤ len

-- so many bytes at the front are the longest decimal number there
pub record IsDecimalLen (text : List ℕ) (len : ℕ) : Type 0 where
  pub within : len ≤ length text
  pub found : IsTrue (is_decimal (take len text))
  pub longest : (other after : List ℕ) → text ≡ other ++ after → IsTrue (is_decimal other) → length other ≤ len

-- ', the letter of a base, and digits of that base
abbrev pub is_suffix : List ℕ → Bool
is_suffix [] = false
is_suffix (b ∷ based) = is_quote b && is_based based

-- so many bytes at the front are the longest such there, 0 where none begins
pub record IsSuffixLen (text : List ℕ) (len : ℕ) : Type 0 where
  pub within : len ≤ length text
  pub found : 0 < len → IsTrue (is_suffix (take len text))
  pub longest : (other after : List ℕ) → text ≡ other ++ after → IsTrue (is_suffix other) → length other ≤ len

-- the byte is a digit of the base
abbrev pub is_digit_of : (base : ℕ) → ℕ → Bool
is_digit_of base b = nat_lt (digit_value b) base

-- the constant of a width and a value
abbrev pub as_constant : ℕ × ℕ → token.Token
as_constant p = token.Const p.0 p.1

-- The tokens of the program as those of the definitions.
use Rattle.std.specs.Prelude.{ℕ, Option, Some, None, List, map, take, drop, slice_get}
use Rattle.std.specs.List.{before_first, after_first}
use Rattle.std.specs.Option.{option_map_or}
use Rattle.std.specs.Str.Parse.{digits_value}
use Rattle.rb_grammar.specs.Spelling.{At}
use Rattle.v_design.specs.Lexemes.{Token, Word, Name, Number, Const, is_quote, constant_of}
use Rattle.v_syntax.specs.declared.token.VKind.{VKind}
use Rattle.v_syntax.specs.declared.token.VKind.TheVariants as kinds
use Rattle.v_syntax.specs.declared.token.VToken.{VToken}
use Rattle.v_syntax.specs.declared.spot.VClass.{VClass}
use Rattle.v_syntax.specs.declared.spot.VClass.TheVariants as classes
use Rattle.v_syntax.specs.declared.spot.VSpot.{VSpot}

-- the token of a kind and its bytes
abbrev pub token_of : VKind → List ℕ → Token
token_of kinds.Id text = Name text
token_of kinds.Dec text = Number (digits_value 10 text)
token_of (kinds.Const width value) text = Const width value
token_of kinds.Word text = Word text
token_of kinds.Mark text = Word text

abbrev pub seen : VToken → At Token
seen t = record { token = token_of t.kind t.text.now; place = t.place.0 }

-- the bytes of a spot of a text
abbrev pub text_of : List ℕ → VSpot → List ℕ
text_of bytes s = take s.len (drop s.place.0 bytes)

-- the width and the value of a constant, 0 where there is none
abbrev pub numbers_of : Option Token → ℕ × ℕ
numbers_of None = (0, 0)
numbers_of (Some (Const width value)) = (width, value)
numbers_of (Some _) = (0, 0)

-- the constant that a lexeme means: its size stands before the ', and its digits behind
abbrev pub constant_in : List ℕ → Option Token
constant_in word = constant_of (digits_value 10 (before_first is_quote word)) (after_first is_quote word)

-- the token of a class and its bytes
abbrev pub token_in : VClass → List ℕ → Token
token_in classes.Id text = Name text
token_in classes.Dec text = Number (digits_value 10 text)
token_in classes.Const text = Const (numbers_of (constant_in text)).0 (numbers_of (constant_in text)).1
token_in classes.Word text = Word text
token_in classes.Mark text = Word text

-- what stands at a spot of a text
abbrev pub spotted : List ℕ → VSpot → At Token
spotted bytes s = record { token = token_in s.class (text_of bytes s); place = s.place.0 }

-- the tokens at the spots of a text
abbrev pub placed : List ℕ → List VSpot → List (At Token)
placed bytes spots = map (spotted bytes) spots

-- where the token of this number stands
abbrev pub place_at : List (At Token) → ℕ → ℕ
place_at ts k = option_map_or (λ t. t.place) (slice_get ts k) 0

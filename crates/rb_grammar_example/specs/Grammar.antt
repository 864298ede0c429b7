-- The grammar of the language.
use Rattle.std.specs.Str.{bytes_eq}
use Rattle.std.specs.Prelude.{Bool, true, false, List, [], ◌∷◌}
use Rattle.rb_grammar.specs.Forms.{Form, Tok, Non, ◌or◌, Opt, Many, ◌then◌, Grammar}
use Rattle.rb_base.specs.declared.place.Place.{Place}
use Rattle.rb_grammar.specs.declared.nesting.Nesting.{Nesting}
use Rattle.rb_grammar.specs.declared.nesting.Nesting.TheVariants.{Opens, Closes, Neither}
use Rattle.rb_grammar_example.specs.declared.token.Mark.{Mark}
use Rattle.rb_grammar_example.specs.declared.token.Mark.TheVariants as marks
use Rattle.rb_grammar_example.specs.declared.token.TokenKind.{TokenKind}
use Rattle.rb_grammar_example.specs.declared.token.TokenKind.TheVariants as kinds
use Rattle.rb_grammar_example.specs.declared.token.Token.{Token}
use Rattle.rb_grammar_example.specs.declared.token.Terminal.{Terminal}
use Rattle.rb_grammar_example.specs.declared.token.Terminal.TheVariants as terminals
use Rattle.rb_grammar_example.specs.Lexemes.{spelling}

-- the terminal of a kind of token
abbrev pub terminal_of : TokenKind → Terminal
terminal_of kinds.Name = terminals.Name
terminal_of (kinds.Number n) = terminals.Number
terminal_of (kinds.Mark m) = terminals.Mark m

abbrev pub same : Terminal → Terminal → Bool
same terminals.Name terminals.Name = true
same terminals.Number terminals.Number = true
same (terminals.Mark m) (terminals.Mark n) = bytes_eq (spelling m) (spelling n)
same a b = false

abbrev pub is : Terminal → Token → Bool
is a t = same a (terminal_of t.kind)

pub data Rule : Type 0 where
  Source Entry Bound Value Values : Rule

abbrev pub name : Form Terminal Rule
name = Tok terminals.Name

abbrev pub number : Form Terminal Rule
number = Tok terminals.Number

abbrev pub mark : Mark → Form Terminal Rule
mark m = Tok (terminals.Mark m)

-- source = { entry } .
-- entry  = name bound ";" .
-- bound  = "=" value | "=>" name .
-- value  = number [ ".." number ] | name | values .
-- values = "[" [ value { "," value } ] "]" .
abbrev pub rule : Rule → Form Terminal Rule
rule Source = Many (Non Entry)
rule Entry = name then Non Bound then mark marks.Semicolon
rule Bound = mark marks.Equals then Non Value or mark marks.Arrow then name
rule Value = number then Opt (mark marks.To then number) or name or Non Values
rule Values = mark marks.Open then Opt (Non Value then Many (mark marks.Comma then Non Value)) then mark marks.Close

abbrev pub settings : Grammar Terminal Rule Token
settings = record { is = is; rule = rule }

-- what a value would go on with
abbrev pub after_value : List Terminal
after_value = terminals.Mark marks.To ∷ []

-- what a source would go on with
abbrev pub after_source : List Terminal
after_source = terminals.Name ∷ []

abbrev pub nesting_of : TokenKind → Nesting
nesting_of (kinds.Mark marks.Open) = Opens
nesting_of (kinds.Mark marks.Close) = Closes
nesting_of kind = Neither

abbrev pub nesting : Token → Nesting
nesting t = nesting_of t.kind

-- the place of the next token, or the end of the source
abbrev pub place_of : List Token → Place → Place
place_of [] end = end
place_of (t ∷ ts) end = t.place

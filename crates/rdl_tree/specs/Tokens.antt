-- How marks are spelled, and which tokens the grammar's terminals are.
use Rattle.std.specs.Str.{bytes_eq}
use Rattle.std.specs.Prelude.{ℕ, Bool, true, false, Option, List, [], ◌∷◌, codes}
use Rattle.rdl_base.specs.declared.keyword.Keyword.{Keyword}
use Rattle.rdl_base.specs.Keywords.{word, keywords}
use Rattle.rb_grammar.specs.Lexemes.{spelled}
use Rattle.rdl_tree.specs.declared.token.Mark.{Mark}
use Rattle.rdl_tree.specs.declared.token.Mark.TheVariants.{OpenBrace, CloseBrace, OpenBracket, CloseBracket, OpenParen, CloseParen, Semicolon, Colon, Comma, Dot, At, Hash, Equals, PlusEquals, PercentEquals, Arrow, Question, ColonColon, Not, Tilde, Quote, Plus, Minus, Star, Slash, Percent, StarStar, ShiftLeft, ShiftRight, Less, Greater, LessEqual, GreaterEqual, EqualEqual, NotEqual, AndAnd, OrOr, And, Or, Caret}
use Rattle.rdl_tree.specs.declared.token.TokenKind.{TokenKind}
use Rattle.rdl_tree.specs.declared.token.TokenKind.TheVariants as kinds
use Rattle.rdl_tree.specs.declared.token.Token.{Token}
use Rattle.rdl_tree.specs.declared.token.Terminal.{Terminal}
use Rattle.rdl_tree.specs.declared.token.Terminal.TheVariants as terminals

-- the marks (SystemRDL 2.0, annex B)
abbrev pub spelling : Mark → List ℕ
spelling OpenBrace = codes "{"
spelling CloseBrace = codes "}"
spelling OpenBracket = codes "["
spelling CloseBracket = codes "]"
spelling OpenParen = codes "("
spelling CloseParen = codes ")"
spelling Semicolon = codes ";"
spelling Colon = codes ":"
spelling Comma = codes ","
spelling Dot = codes "."
spelling At = codes "@"
spelling Hash = codes "#"
spelling Equals = codes "="
spelling PlusEquals = codes "+="
spelling PercentEquals = codes "%="
spelling Arrow = codes "->"
spelling Question = codes "?"
spelling ColonColon = codes "::"
spelling Not = codes "!"
spelling Tilde = codes "~"
spelling Quote = codes "'"
spelling Plus = codes "+"
spelling Minus = codes "-"
spelling Star = codes "*"
spelling Slash = codes "/"
spelling Percent = codes "%"
spelling StarStar = codes "**"
spelling ShiftLeft = codes "<<"
spelling ShiftRight = codes ">>"
spelling Less = codes "<"
spelling Greater = codes ">"
spelling LessEqual = codes "<="
spelling GreaterEqual = codes ">="
spelling EqualEqual = codes "=="
spelling NotEqual = codes "!="
spelling AndAnd = codes "&&"
spelling OrOr = codes "||"
spelling And = codes "&"
spelling Or = codes "|"
spelling Caret = codes "^"

-- all of them
unfoldable pub marks : List Mark
marks = OpenBrace ∷ CloseBrace ∷ OpenBracket ∷ CloseBracket ∷ OpenParen ∷ CloseParen ∷ Semicolon ∷ Colon ∷ Comma ∷ Dot ∷ At ∷ Hash ∷ Equals ∷ PlusEquals ∷ PercentEquals ∷ Arrow ∷ Question ∷ ColonColon ∷ Not ∷ Tilde ∷ Quote ∷ Plus ∷ Minus ∷ Star ∷ Slash ∷ Percent ∷ StarStar ∷ ShiftLeft ∷ ShiftRight ∷ Less ∷ Greater ∷ LessEqual ∷ GreaterEqual ∷ EqualEqual ∷ NotEqual ∷ AndAnd ∷ OrOr ∷ And ∷ Or ∷ Caret ∷ []

-- the mark that is spelled so
abbrev pub mark_of : List ℕ → Option Mark
mark_of text = spelled spelling marks text

-- the reserved word that is spelled so
abbrev pub keyword_of : List ℕ → Option Keyword
keyword_of text = spelled word keywords text

-- the terminal of a kind of token
abbrev pub terminal_of : TokenKind → Terminal
terminal_of kinds.Word = terminals.Name
terminal_of (kinds.Number n) = terminals.Number
terminal_of kinds.Str = terminals.Str
terminal_of (kinds.Mark m) = terminals.Mark m
terminal_of (kinds.Reserved k) = terminals.Reserved k

abbrev pub same : Terminal → Terminal → Bool
same terminals.Name terminals.Name = true
same terminals.Number terminals.Number = true
same terminals.Str terminals.Str = true
same (terminals.Mark m) (terminals.Mark n) = bytes_eq (spelling m) (spelling n)
same (terminals.Reserved k) (terminals.Reserved l) = bytes_eq (word k) (word l)
same a b = false

-- the token is of the terminal
abbrev pub is : Terminal → Token → Bool
is a t = same a (terminal_of t.kind)

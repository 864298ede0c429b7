-- What a compact token keeps of a token's kind.
use Rattle.std.specs.Prelude.{ℕ}
use Rattle.rdl_tree.specs.declared.token.TokenKind.{TokenKind}
use Rattle.rdl_tree.specs.declared.token.TokenKind.TheVariants as kinds
use Rattle.rdl_tree.specs.declared.token.Terminal.{Terminal}
use Rattle.rdl_tree.specs.declared.token.Terminal.TheVariants as terminals

-- the kind that has the terminal, and the value if it is a number
abbrev pub kind_of : Terminal → ℕ → TokenKind
kind_of terminals.Name value = kinds.Word
kind_of terminals.Number value = kinds.Number value
kind_of terminals.Str value = kinds.Str
kind_of (terminals.Mark m) value = kinds.Mark m
kind_of (terminals.Reserved k) value = kinds.Reserved k

-- the value of a number, and 0 of what is none
abbrev pub value_of : TokenKind → ℕ
value_of (kinds.Number value) = value
value_of kind = 0

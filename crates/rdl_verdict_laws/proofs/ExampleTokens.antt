-- The tokens of the first example, and its tree.
use Rattle.std.proofs.Common.{ℕ, List, [], ◌∷◌, ◌++◌, None, Some, codes}
use Rattle.rdl_base.specs.declared.keyword.Keyword.{Keyword}
use Rattle.rdl_base.specs.declared.keyword.Keyword.TheVariants as words
use Rattle.rdl_base.specs.Keywords.{word}
use Rattle.rdl_tree.specs.declared.token.Mark.{Mark}
use Rattle.rdl_tree.specs.declared.token.Mark.TheVariants as marks
use Rattle.rdl_tree.specs.declared.token.Token.{Token}
use Rattle.rdl_tree.specs.declared.token.TokenKind.{TokenKind}
use Rattle.rdl_tree.specs.declared.token.TokenKind.TheVariants as kinds
use Rattle.rdl_tree.specs.Tokens.{spelling}
use Rattle.rdl_verdict_laws.proofs.WorkedTrees.{lend, at}

-- addrmap one { reg { field { sw=rw; hw=r; } f[32] = 32'h5; } a @0x0; };
abbrev token : TokenKind → List ℕ → ℕ → Token
token kind text place = record { kind = kind; text = lend text; place = at place }

abbrev reserved : Keyword → ℕ → Token
reserved k place = token (kinds.Reserved k) (word k) place

abbrev pub word_token : List ℕ → ℕ → Token
word_token text place = token kinds.Word text place

abbrev pub mark : Mark → ℕ → Token
mark m place = token (kinds.Mark m) (spelling m) place

abbrev pub behind_map : List Token
behind_map = mark marks.Semicolon 69 ∷ []

abbrev pub behind_reg : List Token
behind_reg = mark marks.CloseBrace 68 ∷ behind_map

abbrev pub at_a : List Token
at_a = word_token (codes "a") 60 ∷ mark marks.At 62 ∷ token (kinds.Number 0) (codes "0x0") 63 ∷ mark marks.Semicolon 66 ∷ behind_reg

abbrev pub behind_field : List Token
behind_field = mark marks.CloseBrace 58 ∷ at_a

abbrev pub at_f : List Token
at_f = word_token (codes "f") 43 ∷ mark marks.OpenBracket 44 ∷ token (kinds.Number 32) (codes "32") 45 ∷ mark marks.CloseBracket 47 ∷ mark marks.Equals 49 ∷ token (kinds.Number 5) (codes "32'h5") 51 ∷ mark marks.Semicolon 56 ∷ behind_field

abbrev pub behind_hw : List Token
behind_hw = mark marks.CloseBrace 41 ∷ at_f

abbrev pub at_hw : List Token
at_hw = word_token (codes "hw") 35 ∷ mark marks.Equals 37 ∷ reserved words.R 38 ∷ mark marks.Semicolon 39 ∷ behind_hw

abbrev pub at_sw : List Token
at_sw = word_token (codes "sw") 28 ∷ mark marks.Equals 30 ∷ reserved words.Rw 31 ∷ mark marks.Semicolon 33 ∷ at_hw

abbrev pub at_field : List Token
at_field = reserved words.Field 20 ∷ mark marks.OpenBrace 26 ∷ at_sw

abbrev pub at_reg : List Token
at_reg = reserved words.Reg 14 ∷ mark marks.OpenBrace 18 ∷ at_field

abbrev pub tokens : List Token
tokens = reserved words.Addrmap 0 ∷ word_token (codes "one") 8 ∷ mark marks.OpenBrace 12 ∷ at_reg

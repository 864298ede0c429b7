-- What is answered for a source.
use Rattle.std.specs.Prelude.{◌≡◌, ℕ, List, [], ◌∷◌, length, drop, map}
use Rattle.rdl_base.specs.declared.keyword.Keyword.{Keyword}
use Rattle.rdl_base.specs.declared.keyword.Keyword.TheVariants as words
use Rattle.rb_base.specs.declared.place.Place.{Place}
use Rattle.rdl_base.specs.declared.rule.Rule.{Rule}
use Rattle.rdl_base.specs.declared.rule.Rule.TheVariants as rules
use Rattle.rb_grammar.specs.Spelling.{Spells}
use Rattle.rdl_tree.specs.declared.item.Item.{Item}
use Rattle.rdl_tree.specs.declared.token.Mark.{Mark}
use Rattle.rdl_tree.specs.declared.token.Mark.TheVariants as marks
use Rattle.rdl_tree.specs.declared.token.TokenKind.{TokenKind}
use Rattle.rdl_tree.specs.declared.token.TokenKind.TheVariants as kinds
use Rattle.rdl_tree.specs.declared.token.Token.{Token}
use Rattle.rdl_tree.specs.Tree.{DerivesItems}
use Rattle.rdl_lexer.specs.Lexemes.{seen, systemrdl}
use Rattle.rdl_lexer.specs.Faults.{FailsLexically}
use Rattle.rdl_parser.specs.declared.error.ParseError.{ParseError}
use Rattle.rdl_parser.specs.declared.error.ParseError.TheVariants.{Lex, Syntax, TooDeep, NoMemory}
use Rattle.rdl_lexer.specs.Depth.{StaysWithin}
use Rattle.rdl_parser.specs.Judging.{IsGood, IsWrongAt, IsTooDeepAt}

-- the text spells these tokens
abbrev pub SpellsTokens : List ℕ → List Token → Type 0
SpellsTokens text ts = Spells systemrdl text (map seen ts)

-- the place of the next token, or the end of the source
abbrev pub place_of : List Token → Place → Place
place_of [] end = end
place_of (t ∷ ts) end = t.place

abbrev pub end_of : List ℕ → Place
end_of text = record { 0 = length text }

-- the rules that name a word that this profile leaves out
abbrev pub word_rule : Keyword → Rule
word_rule words.Constraint = rules.O1
word_rule words.Mem = rules.O2
word_rule words.External = rules.O3
word_rule words.Struct = rules.O4
word_rule words.Abstract = rules.O4
word_rule words.Property = rules.O5
word_rule words.Ruser = rules.O6
word_rule words.Wuser = rules.O6
word_rule words.Accesstype = rules.O8
word_rule words.Addressingtype = rules.O8
word_rule words.Onreadtype = rules.O8
word_rule words.Onwritetype = rules.O8
word_rule k = rules.S1

abbrev pub mark_rule : Mark → Rule
mark_rule marks.Tilde = rules.O7
mark_rule marks.Quote = rules.O9
mark_rule m = rules.S1

abbrev pub kind_rule : TokenKind → Rule
kind_rule (kinds.Mark m) = mark_rule m
kind_rule (kinds.Reserved k) = word_rule k
kind_rule kind = rules.S1

-- the rule that is broken where the tokens stop being a source before what is left
abbrev pub rule_of : List Token → Rule
rule_of [] = rules.S1
rule_of (t ∷ ts) = kind_rule t.kind

-- the text spells tokens that derive these items, and none of them nests too deep
pub record Reads (text : List ℕ) (items : List Item) : Type 0 where
  pub tokens : List Token
  pub spelled : SpellsTokens text tokens
  pub derived : DerivesItems tokens [] items
  pub within : StaysWithin tokens

-- the text spells a source, and no token of it nests too deep
pub record IsAccepted (text : List ℕ) : Type 0 where
  pub tokens : List Token
  pub spelled : SpellsTokens text tokens
  pub good : IsGood tokens

-- the text spells tokens that stop being a source here, and this rule says so
pub record IsWrong (text : List ℕ) (place : Place) (rule : Rule) : Type 0 where
  pub tokens : List Token
  pub left : List Token
  pub spelled : SpellsTokens text tokens
  pub wrong : IsWrongAt tokens left
  pub at : place ≡ place_of left (end_of text)
  pub named : rule ≡ rule_of left

-- the text spells tokens of which the one here is the first that nests too deep
pub record IsTooDeep (text : List ℕ) (place : Place) : Type 0 where
  pub tokens : List Token
  pub index : ℕ
  pub spelled : SpellsTokens text tokens
  pub deep : IsTooDeepAt tokens index
  pub at : place ≡ place_of (drop index tokens) (end_of text)

-- the text has this error; that memory was refused is the error of no text
abbrev pub HasError : List ℕ → ParseError → Type 0
HasError text (Lex fault) = FailsLexically text fault
HasError text (Syntax place rule) = IsWrong text place rule
HasError text (TooDeep place) = IsTooDeep text place
HasError text NoMemory = ⊥

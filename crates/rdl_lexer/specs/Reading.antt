-- How far a source has been read.
use Rattle.std.specs.Prelude.{◌≡◌, ℕ, ◌≤◌, Bool, false, Option, Some, List, [], ◌∷◌, length, take, drop, codes}
use Rattle.std.specs.Str.{bytes_eq}
use Rattle.rdl_base.specs.declared.fault.Fault.{Fault}
use Rattle.rdl_base.specs.declared.rule.Rule.{Rule}
use Rattle.rb_grammar.specs.Lexemes.{meaning_of}
use Rattle.rb_grammar.specs.Spelling.{IsNext, IsFault}
use Rattle.rb_grammar.specs.Spelling as spelling
use Rattle.rdl_tree.specs.declared.token.TokenKind.{TokenKind}
use Rattle.rdl_lexer.specs.Lexemes.{is_other, number, systemrdl}
use Rattle.rdl_lexer.specs.Faults.{rule_of}

-- the first byte passes the test
abbrev pub begins : (ℕ → Bool) → List ℕ → Bool
begins test [] = false
begins test (b ∷ bs) = test b

-- the first byte begins no word, number or string
abbrev pub begins_other : List ℕ → Bool
begins_other text = begins is_other text

-- how many bytes the source has, what is left of it, and the fault that was answered, if one was
pub record Reading : Type 0 where
  pub size : ℕ
  pub rest : List ℕ
  pub fault : Option Fault

-- the lexeme at the front is so many bytes, and means this token
pub record IsLexeme (left : List ℕ) (len : ℕ) (kind : TokenKind) (text : List ℕ) : Type 0 where
  pub within : len ≤ length left
  pub next : IsNext systemrdl left (take len left) (drop len left)
  pub means : meaning_of systemrdl (take len left) ≡ Some (record { kind = kind; text = text })

-- the number at the front is so many bytes, and has this value, if any
pub record IsNumberAt (left : List ℕ) (len : ℕ) (value : Option ℕ) : Type 0 where
  pub within : len ≤ length left
  pub next : IsNext systemrdl left (take len left) (drop len left)
  pub means : meaning_of systemrdl (take len left) ≡ number (take len left) value
  pub no_perl : bytes_eq (codes "<%") (take len left) ≡ false

-- the fault that stands at the front breaks the rule
pub record Breaks (left : List ℕ) (rule : Rule) : Type 0 where
  pub wrong : spelling.Fault
  pub stands : IsFault systemrdl left wrong
  pub named : rule ≡ rule_of wrong

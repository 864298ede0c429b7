-- The lexical rules.
use Rattle.std.specs.Str.{bytes_eq}
use Rattle.std.specs.Prelude.{◌≡◌, ℕ, ◌==◌, if◌then◌else◌, List, codes}
use Rattle.rdl_base.specs.declared.fault.Fault.{Fault}
use Rattle.rdl_base.specs.declared.rule.Rule.{Rule}
use Rattle.rdl_base.specs.declared.rule.Rule.TheVariants.{L1, L2, L3, L4, L5, L6}
use Rattle.rb_grammar.specs.Spelling.{FailsAt, Faults, NoLexeme, OpenComment, NoMeaning}
use Rattle.rb_grammar.specs.Spelling as spelling
use Rattle.rdl_lexer.specs.Lexemes.{is_string_quote, systemrdl}

-- the rule that is broken. Where no lexeme begins at ", a string is not closed, and only Perl code and bad numbers are
-- lexemes without a meaning
abbrev pub rule_of : spelling.Fault → Rule
rule_of (NoLexeme b) = if is_string_quote b then L3 else (if b == 96 then L6 else L1)
rule_of OpenComment = L2
rule_of (NoMeaning word) = if bytes_eq (codes "<%") word then L5 else L4

-- behind separators, this fault stands in what is left of a source of this size
pub record IsFaultAt (size : ℕ) (text : List ℕ) (fault : Fault) : Type 0 where
  pub wrong : spelling.Fault
  pub fails : FailsAt systemrdl size text wrong fault.place.0
  pub rule : fault.rule ≡ rule_of wrong

-- the lexical phase fails for this source, and its first fault is this one
pub record FailsLexically (text : List ℕ) (fault : Fault) : Type 0 where
  pub wrong : spelling.Fault
  pub faults : Faults systemrdl text wrong fault.place.0
  pub rule : fault.rule ≡ rule_of wrong

-- What is wrong in a source.
use Rattle.std.specs.Prelude.{◌≡◌, ℕ, List}
use Rattle.rb_grammar.specs.Spelling.{IsFault, FailsAt, Faults}
use Rattle.rb_grammar_example.specs.Lexemes.{settings}
use Rattle.rb_grammar.specs.Spelling.{NoLexeme, OpenComment, NoMeaning}
use Rattle.rb_grammar.specs.Spelling as spelling
use Rattle.rb_grammar_example.specs.declared.lexer.Fault as lexer
use Rattle.rb_grammar_example.specs.declared.lexer.LexError.{LexError}
use Rattle.rb_grammar_example.specs.declared.lexer.LexError.TheVariants.{NoMemory}
use Rattle.rb_grammar_example.specs.declared.lexer.LexError.TheVariants as errors
use Rattle.rb_grammar_example.specs.declared.lexer.Rule.{Rule}
use Rattle.rb_grammar_example.specs.declared.lexer.Rule.TheVariants as rules

-- the rule that a fault breaks
abbrev pub rule_of : spelling.Fault → Rule
rule_of (NoLexeme b) = rules.NoLexeme
rule_of OpenComment = rules.OpenComment
rule_of (NoMeaning word) = rules.TooLarge

-- no lexeme with a meaning comes next, and this rule is broken
abbrev pub Breaks : List ℕ → Rule → Type 0
Breaks left r = (f : spelling.Fault) × IsFault settings left f × (r ≡ rule_of f)

-- the fault where the next token should come
abbrev pub FailsBy : ℕ → List ℕ → lexer.Fault → Type 0
FailsBy size text e = (f : spelling.Fault) × FailsAt settings size text f e.place.0 × (e.rule ≡ rule_of f)

-- the first fault of a source, unless memory was refused
abbrev pub FaultsBy : List ℕ → LexError → Type 0
FaultsBy source NoMemory = Unit {0}
FaultsBy source (errors.Fault e) = (f : spelling.Fault) × Faults settings source f e.place.0 × (e.rule ≡ rule_of f)

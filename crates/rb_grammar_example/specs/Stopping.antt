-- Where a reading of tokens stopped.
use Rattle.std.specs.Prelude.{List}
use Rattle.rb_grammar.specs.Forms.{Non, StopsAt}
use Rattle.rb_grammar_example.specs.declared.token.Token.{Token}
use Rattle.rb_grammar_example.specs.declared.parser.Unread.{Unread}
use Rattle.rb_grammar_example.specs.declared.parser.Unread.TheVariants.{Syntax, NoMemory}
use Rattle.rb_grammar_example.specs.Grammar.{settings, Source}

-- the tokens stop being a source before what is left
abbrev pub StopsThere : List Token → Unread → Type 0
StopsThere ts (Syntax left) = StopsAt settings (Non Source) ts left.now
StopsThere ts NoMemory = Unit {0}

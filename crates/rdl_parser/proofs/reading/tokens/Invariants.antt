use Rattle.std.proofs.Common.{◌≡◌, ℕ, None, List, ◌++◌, length, map}
use Rattle.rb_grammar.specs.Spelling.{At, SpellsFrom, FaultsFrom}
use Rattle.rb_grammar.specs.Spelling as spelling
use Rattle.rdl_lexer.specs.Lexemes.{Lexeme, seen, systemrdl}
use Rattle.rdl_parser.proofs.reading.tokens.Given as goal

abbrev pub invariant-more : goal.invariant-more
invariant-more l = record {
  size : l.lexer.size ≡ length l.src;
  sound : l.lexer.fault ≡ None;
  spells : (ts : List (At Lexeme)) → SpellsFrom systemrdl (length l.src) l.lexer.rest ts → SpellsFrom systemrdl (length l.src) l.src (map seen l.tokens.items ++ ts);
  faults : (f : spelling.Fault) (place : ℕ) → FaultsFrom systemrdl (length l.src) l.lexer.rest f place → FaultsFrom systemrdl (length l.src) l.src f place;
}

abbrev pub decreases-more : goal.decreases-more
decreases-more l = length l.lexer.rest

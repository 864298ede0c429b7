use Rattle.std.proofs.Common.{◌≡◌, ℕ, ◌+◌, List, ◌++◌, length, map}
use Rattle.rb_grammar.specs.Spelling.{At, Fault, SpellsFrom, FaultsFrom}
use Rattle.rb_grammar_example.specs.Lexemes.{Lexeme, seen, settings}
use Rattle.rb_grammar_example.proofs.lexer.tokens.Given as goal

abbrev pub invariant-more : goal.invariant-more
invariant-more l = record {
  size : l.place.0 + length l.rest ≡ length l.source;
  spells : (ts : List (At Lexeme)) → SpellsFrom settings (length l.source) l.rest ts → SpellsFrom settings (length l.source) l.source (map seen l.tokens.items ++ ts);
  faults : (f : Fault) (place : ℕ) → FaultsFrom settings (length l.source) l.rest f place → FaultsFrom settings (length l.source) l.source f place;
}

abbrev pub decreases-more : goal.decreases-more
decreases-more l = length l.rest

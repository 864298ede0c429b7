use Rattle.std.proofs.Common.{◌≡◌, ℕ, None, List, ◌++◌, length}
use Rattle.std.specs.List.{AllByRecursion}
use Rattle.v_syntax.specs.Tokens.{placed}
use Rattle.v_syntax.specs.Scanned.{SpellsUpTo}
use Rattle.v_lexer.specs.Reading.{IsOfItsClass}
use Rattle.v_lexer.proofs.scan.tokens.Given as goal

abbrev pub invariant-more : goal.invariant-more
invariant-more l = record {
  size : l.lexer.size ≡ length l.bytes;
  so_far : l.lexer.fault ≡ None;
  spells : SpellsUpTo (length l.bytes) l.bytes (placed l.bytes l.tokens.items) l.lexer.rest;
  behind : (gap : List ℕ) × (l.bytes ≡ gap ++ l.lexer.rest);
  classes : AllByRecursion (IsOfItsClass l.bytes) l.tokens.items;
}

abbrev pub decreases-more : goal.decreases-more
decreases-more l = length l.lexer.rest

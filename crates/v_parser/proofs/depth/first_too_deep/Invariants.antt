use Rattle.std.proofs.Common.{◌≡◌, ℕ, ◌≤◌, take}
use Rattle.rb_grammar.specs.Brackets.{open_after}
use Rattle.v_parser.specs.Reading.{nesting_in}
use Rattle.v_parser.proofs.depth.first_too_deep.Given as goal

abbrev pub invariant-loop-i : goal.invariant-loop-i
invariant-loop-i l = record {
  count : l.open ≡ open_after (nesting_in l.bytes) (take l.i l.tokens);
  before : (k : ℕ) → k ≤ l.i → open_after (nesting_in l.bytes) (take k l.tokens) ≤ l.most;
}

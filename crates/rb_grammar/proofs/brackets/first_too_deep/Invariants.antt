use Rattle.std.proofs.Common.{◌≡◌, ℕ, ◌≤◌, take}
use Rattle.rb_grammar.specs.Brackets.{open_after}
use Rattle.rb_grammar.proofs.brackets.first_too_deep.Given as goal

abbrev pub invariant-loop-i : goal.invariant-loop-i
invariant-loop-i g l = record {
  count : l.open ≡ open_after g.T.Bracket.nesting (take l.i l.tokens);
  before : (k : ℕ) → k ≤ l.i → open_after g.T.Bracket.nesting (take k l.tokens) ≤ l.most;
}

use Rattle.std.proofs.Common.{◌≤◌, ◌-◌, length, drop}
use Rattle.rb_grammar.specs.Separators.{Skips}
use Rattle.rb_grammar.proofs.separators.separators_len.Given as goal

abbrev pub invariant-loop-more : goal.invariant-loop-more
invariant-loop-more l = record {
  within : l.len ≤ length l.text;
  skips : Skips l.comments l.text (drop l.len l.text);
}

abbrev pub decreases-loop-more : goal.decreases-loop-more
decreases-loop-more l = length l.text - l.len

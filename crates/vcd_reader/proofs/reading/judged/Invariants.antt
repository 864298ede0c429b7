use Rattle.std.proofs.Common.{◌≤◌, ◌-◌, List, length, drop}
use Rattle.rb_grammar.specs.Spelling.{SpellsFrom}
use Rattle.vcd_syntax.specs.Words.{vcd}
use Rattle.vcd_syntax.specs.Tokens.{Word}
use Rattle.vcd_reader.specs.Steps.{IsSaid}
use Rattle.vcd_reader.proofs.reading.judged.Given as goal

abbrev pub invariant-words : goal.invariant-words
invariant-words l = record {
  inside : l.at ≤ length l.bytes;
  said : (left : List Word) → SpellsFrom vcd (length l.bytes) (drop l.at l.bytes) left → IsSaid l.bytes left l.said;
}

abbrev pub decreases-words : goal.decreases-words
decreases-words l = length l.bytes - l.at

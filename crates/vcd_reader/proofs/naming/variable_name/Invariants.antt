use Rattle.std.proofs.Common.{◌≤◌, ◌-◌, List, length}
use Rattle.vcd_syntax.specs.Tokens.{Token}
use Rattle.vcd_syntax.specs.Reading.{IsSound}
use Rattle.vcd_reader.specs.Walks.{IsWalked}
use Rattle.vcd_reader.proofs.naming.variable_name.Given as goal

abbrev pub invariant-words : goal.invariant-words
invariant-words l = record {
  inside : l.at ≤ length l.bytes;
  walked : (ms : List Token) → IsSound l.bytes ms → IsWalked l.bytes ms l.at l.state l.left l.number;
}

abbrev pub decreases-words : goal.decreases-words
decreases-words l = length l.bytes - l.at

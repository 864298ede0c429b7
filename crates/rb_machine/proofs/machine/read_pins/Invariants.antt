use Rattle.std.proofs.Common.{◌≡◌, length, take}
use Rattle.rb_machine.proofs.machine.read_pins.Given as goal

abbrev pub invariant-loop-index : goal.invariant-loop-index
invariant-loop-index l = record {
  sized : length l.into ≡ length l.from;
  values : take l.index l.into ≡ take l.index l.from;
}

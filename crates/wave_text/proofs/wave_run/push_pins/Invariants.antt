use Rattle.std.proofs.Common.{◌≡◌, ◌++◌, take}
use Rattle.wave_text.proofs.wave_run.push_pins.Given as goal

abbrev pub invariant-loop-pin : goal.invariant-loop-pin
invariant-loop-pin l = l.pins.items ≡ l.initial.pins.items ++ take l.pin-index l.more

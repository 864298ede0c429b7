use Rattle.std.proofs.Common.{◌≡◌, ◌++◌, map, take}
use Rattle.rb_model.specs.Ports.{input, signal_pins}
use Rattle.rb_model.proofs.port_list.push_signals.Given as goal

abbrev pub invariant-loop-signal : goal.invariant-loop-signal
invariant-loop-signal l = l.out.items ≡ l.initial.out.items ++ map input (signal_pins l.root (take l.signal-index l.signals))

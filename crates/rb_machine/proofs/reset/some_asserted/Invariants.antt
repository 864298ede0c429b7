use Rattle.std.proofs.Common.{◌≡◌, false, take}
use Rattle.std.specs.List.{list_any}
use Rattle.rb_model.specs.Machine.{is_asserted}
use Rattle.rb_model.specs.Run.{pins_of}
use Rattle.rb_machine.proofs.reset.some_asserted.Given as goal

abbrev pub invariant-loop-by : goal.invariant-loop-by
invariant-loop-by l = list_any (is_asserted l.block (pins_of l.block l.pins)) (take l.by-index l.ways) ≡ false

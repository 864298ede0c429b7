use Rattle.std.proofs.Common.{◌≡◌, bit_or, fold, take}
use Rattle.rb_model.specs.Machine.{slot_value}
use Rattle.rb_machine.specs.Table.{values_of}
use Rattle.rb_machine.proofs.slots.word_value.Given as goal

abbrev pub invariant-loop-slot : goal.invariant-loop-slot
invariant-loop-slot l = l.bits ≡ fold (λ acc s. bit_or acc (slot_value l.block (values_of l.table) s)) 0 (take l.slot-index l.slot-items)

use Rattle.gen_access.specs.Touches.{one_bit, slot_mark, touch_reached, touches}
use Rattle.gen_access.proofs.Loops.{SlotsTo}
use Rattle.gen_access.proofs.touched.Marking.word.Given as goal

abbrev pub invariant-loop-slot : goal.invariant-loop-slot
invariant-loop-slot l =
    let b = l.self.base.now.block.now in
    SlotsTo b l.self.base.now.inlet l.fn.net l.net l.fn.table l.table one_bit (touch_reached l.self.touch) (slot_mark b l.self.wanted.now l.self.mark l.self.touch) (touches l.self.touch) l.hit l.slot-items l.slot-index

use Rattle.gen_access.specs.Words.{below}
use Rattle.gen_access.specs.Touches.{one_bit, slot_mark, touch_reached, touch_words}
use Rattle.gen_access.proofs.Turns.{StepsTo}
use Rattle.gen_access.proofs.touched.Marking.all.Given as goal

abbrev pub invariant-loop-number : goal.invariant-loop-number
invariant-loop-number l =
    let b = l.self.base.now.block.now in
    StepsTo b l.self.base.now.inlet l.fn.net l.net l.fn.table l.table one_bit (below (touch_words b l.self.touch) (touch_reached l.self.touch) (slot_mark b l.self.wanted.now l.self.mark l.self.touch) l.number)

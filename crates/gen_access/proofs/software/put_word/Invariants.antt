use Rattle.gen_access.specs.Effects.{has_effect, reached_by, slot_effect, width_of}
use Rattle.gen_access.proofs.Loops.{SlotsTo}
use Rattle.gen_access.proofs.software.put_word.Given as goal

abbrev pub invariant-loop-slot : goal.invariant-loop-slot
invariant-loop-slot l =
    let b = l.scene.base.now.block.now in
    SlotsTo b l.scene.base.now.inlet l.fn.net l.net l.fn.table l.table (width_of l.effect) (reached_by l.effect) (slot_effect b l.effect) (has_effect l.effect) l.hit l.slot-items l.slot-index

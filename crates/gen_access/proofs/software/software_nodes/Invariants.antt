use Rattle.gen_access.specs.Words.{below}
use Rattle.gen_access.specs.Effects.{reached_by, slot_effect, width_of, words_of}
use Rattle.gen_access.proofs.Turns.{StepsTo}
use Rattle.gen_access.proofs.software.software_nodes.Given as goal

abbrev pub invariant-loop-number : goal.invariant-loop-number
invariant-loop-number l =
    let b = l.scene.base.now.block.now in
    StepsTo b l.scene.base.now.inlet l.fn.net l.net l.fn.table l.table (width_of l.effect) (below (words_of b l.effect) (reached_by l.effect) (slot_effect b l.effect) l.number)

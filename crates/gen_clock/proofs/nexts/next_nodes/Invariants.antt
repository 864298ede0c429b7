use Rattle.gen_clock.proofs.Taking.{NextsTo}
use Rattle.gen_clock.proofs.nexts.next_nodes.Given as goal

abbrev pub invariant-loop-kept : goal.invariant-loop-kept
invariant-loop-kept l = NextsTo l.scene.base.now.block.now l.scene.base.now.inlet l.fn.net l.net l.nexts.items l.kept-index

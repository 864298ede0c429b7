use Rattle.std.proofs.Common.{length}
use Rattle.gen_scene.proofs.Ordering.{MadeTo}
use Rattle.gen_scene.proofs.items.item_nodes.Given as goal

abbrev pub invariant-loop-item : goal.invariant-loop-item
invariant-loop-item l = MadeTo l.base.block.now l.base.inlet l.wanted l.fn.net l.net (length l.initial.table.items) l.table.items l.item-index

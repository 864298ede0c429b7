use Rattle.rb_model.specs.Items.{Access, AreItemValues, ItemValues}
use Rattle.rb_machine.specs.Scene.{AreStrobes, now_in}
use Rattle.rb_machine.proofs.Settling.{SettledTo}
use Rattle.rb_machine.proofs.scene.EdgeState.settle.Given as goal

abbrev pub invariant-loop-index : goal.invariant-loop-index
invariant-loop-index l = (a : Access) (v : ItemValues) → AreStrobes l.self.block.now a l.self.marks.now → AreItemValues l.self.block.now (now_in l.self a) v → SettledTo v l.order l.table l.index

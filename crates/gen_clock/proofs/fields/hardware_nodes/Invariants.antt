use Rattle.gen_access.proofs.Turns.{StepsTo}
use Rattle.gen_clock.proofs.Sweeps.{swept}
use Rattle.gen_clock.proofs.fields.hardware_nodes.Given as goal

abbrev pub invariant-loop-number : goal.invariant-loop-number
invariant-loop-number l = StepsTo l.scene.base.now.block.now l.scene.base.now.inlet l.fn.net l.net l.fn.table l.table (λ f. f.width) (swept l.last l.number)

use Rattle.gen_core.proofs.Driving.{DrivenTo}
use Rattle.gen_core.proofs.drives.drive_nodes.Given as goal

abbrev pub invariant-loop-number : goal.invariant-loop-number
invariant-loop-number l = DrivenTo l.base.block.now l.base.plan.now l.base.pins.now l.fn.net l.net l.base.kept.now l.nexts l.number

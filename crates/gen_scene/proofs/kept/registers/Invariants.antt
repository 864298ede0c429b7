use Rattle.gen_scene.proofs.Registering.{RegistersTo}
use Rattle.gen_scene.proofs.kept.registers.Given as goal

abbrev pub invariant-loop-kept : goal.invariant-loop-kept
invariant-loop-kept l = RegistersTo l.block l.plan l.pins l.fn.net l.net l.ids.items l.kept-index

use Rattle.gen_clock.proofs.Tabling.{ValuesTo}
use Rattle.gen_clock.proofs.values.value_nodes.Given as goal

abbrev pub invariant-loop-index : goal.invariant-loop-index
invariant-loop-index l = ValuesTo l.scene l.table.items l.index

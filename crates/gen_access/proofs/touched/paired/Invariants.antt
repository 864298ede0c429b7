use Rattle.gen_access.proofs.MarkSteps.{PairedTo}
use Rattle.gen_access.proofs.touched.paired.Given as goal

abbrev pub invariant-loop-number : goal.invariant-loop-number
invariant-loop-number l = PairedTo l.modified l.accessed l.all.items l.number

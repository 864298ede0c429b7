use Rattle.std.proofs.Common.{◌≡◌, []}
use Rattle.rdl_bodies.proofs.Distinct.{Added}
use Rattle.rdl_bodies.proofs.values.table_of.Given as goal

abbrev pub invariant-loop-parameter : goal.invariant-loop-parameter
invariant-loop-parameter l = (l.table.enums ≡ []) × Added l.bound l.parameter-index l.table.bound

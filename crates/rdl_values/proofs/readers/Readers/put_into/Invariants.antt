use Rattle.std.proofs.Common.{◌≤◌, ◌-◌}
use Rattle.rdl_values.proofs.ReadBy.{ArePut}
use Rattle.rdl_values.proofs.readers.Readers.put_into.Given as goal

abbrev pub invariant-loop-reader : goal.invariant-loop-reader
invariant-loop-reader l = record {
  within : l.from ≤ l.upto;
  put : ArePut l.self l.read l.initial.places l.places l.from;
}

abbrev pub decreases-loop-reader : goal.decreases-loop-reader
decreases-loop-reader l = l.upto - l.from

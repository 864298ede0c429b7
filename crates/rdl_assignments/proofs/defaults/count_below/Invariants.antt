use Rattle.std.proofs.Common.{◌≡◌, ◌≤◌, take}
use Rattle.rdl_assignments.specs.Defaults.{count_before}
use Rattle.rdl_assignments.proofs.defaults.count_below.Given as goal

abbrev pub invariant-loop-one : goal.invariant-loop-one
invariant-loop-one l = record {
  counted : l.count ≡ count_before (take l.one-index l.positions) l.position;
  small : l.count ≤ l.one-index;
}

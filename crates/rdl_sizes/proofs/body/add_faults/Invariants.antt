use Rattle.std.proofs.Common.{◌≡◌, ◌++◌, take, flat_map}
use Rattle.rdl_sizes.specs.Lots.{lot_faults}
use Rattle.rdl_sizes.proofs.body.add_faults.Given as goal

abbrev pub invariant-loop-lot : goal.invariant-loop-lot
invariant-loop-lot l = l.faults.items ≡ l.initial.faults.items ++ flat_map (lot_faults l.mode) (take l.lot-index l.lots)

use Rattle.std.proofs.Common.{◌≡◌, flat_map, take}
use Rattle.manual_units.specs.Units.{lot_units}
use Rattle.manual_units.proofs.units.units_of.Given as goal

abbrev pub invariant-loop-lot : goal.invariant-loop-lot
invariant-loop-lot l = l.units.items ≡ flat_map (lot_units l.block) (take l.lot-index l.lots)

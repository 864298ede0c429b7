use Rattle.std.proofs.Common.{◌≡◌, map, take}
use Rattle.manual_units.specs.Units.{lot}
use Rattle.manual_units.proofs.lots.lots_of.Given as goal

abbrev pub invariant-loop-group : goal.invariant-loop-group
invariant-loop-group l = l.lots.items ≡ map (lot l.block l.notes l.encodings) (take l.group-index l.group-items)

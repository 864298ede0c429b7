use Rattle.std.proofs.Common.{◌≡◌, take}
use Rattle.rdl_sizes.specs.Lots.{parts_in}
use Rattle.rdl_sizes.proofs.body.parts_of.Given as goal

abbrev pub invariant-loop-lot : goal.invariant-loop-lot
invariant-loop-lot l = l.parts.items ≡ parts_in (take l.lot-index l.lots)

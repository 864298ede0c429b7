use Rattle.std.proofs.Common.{◌≡◌, take}
use Rattle.rdl_values.specs.Phase3 as phase
use Rattle.rdl_scopes.proofs.components.names_in.Given as goal

abbrev pub invariant-loop-item : goal.invariant-loop-item
invariant-loop-item l = l.names.items ≡ phase.names_in (take l.item-index l.items)

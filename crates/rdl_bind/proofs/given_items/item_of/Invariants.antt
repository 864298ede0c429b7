use Rattle.std.proofs.Common.{◌≡◌, drop}
use Rattle.rdl_refs.specs.Tables.{item_at}
use Rattle.rdl_bind.proofs.given_items.item_of.Given as goal

abbrev pub invariant-loop-target : goal.invariant-loop-target
invariant-loop-target l = item_at l.prop l.targets ≡ item_at l.prop (drop l.target-index l.targets)

use Rattle.std.proofs.Common.{◌≡◌, map, take}
use Rattle.rb_machine.specs.Table.{place_of}
use Rattle.rb_machine.proofs.table.item_places.Given as goal

abbrev pub invariant-loop-item : goal.invariant-loop-item
invariant-loop-item l = l.all.items ≡ map place_of (take l.item-index l.items)

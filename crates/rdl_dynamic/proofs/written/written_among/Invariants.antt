use Rattle.std.proofs.Common.{◌≡◌, flat_map, map, take}
use Rattle.rdl_values.specs.Views.{item_is}
use Rattle.rdl_dynamic.specs.Written.{parts_of, written_in}
use Rattle.rdl_dynamic.proofs.written.written_among.Given as goal

abbrev pub invariant-loop-item : goal.invariant-loop-item
invariant-loop-item l = map parts_of l.list.items ≡ flat_map (λ i. written_in (item_is i)) (take l.item-index l.items)

-- The places of items in tables.
use Rattle.std.specs.Prelude.{ℕ, ◌+◌, ◌*◌}
use Rattle.rb_model.specs.declared.kinds.RefItem.{RefItem}
use Rattle.rb_model.specs.declared.kinds.RefItem.TheVariants as item

-- the place of an item: thirteen in turn for each number, one of each kind
abbrev pub item_place : RefItem → ℕ
item_place (item.Field k) = k * 13
item_place (item.Signal k) = k * 13 + 1
item_place (item.Anded k) = k * 13 + 2
item_place (item.Ored k) = k * 13 + 3
item_place (item.Xored k) = k * 13 + 4
item_place (item.IncrThreshold k) = k * 13 + 5
item_place (item.DecrThreshold k) = k * 13 + 6
item_place (item.Overflow k) = k * 13 + 7
item_place (item.Underflow k) = k * 13 + 8
item_place (item.SwMod k) = k * 13 + 9
item_place (item.SwAcc k) = k * 13 + 10
item_place (item.Intr k) = k * 13 + 11
item_place (item.Halt k) = k * 13 + 12

-- The places of items in tables.
use Rattle.std.proofs.Common.{◌≡◌, ap, arith}
use Rattle.rb_model.specs.declared.kinds.RefItem.{RefItem}
use Rattle.rb_model.specs.declared.kinds.RefItem.TheVariants as item
use Rattle.block_plan.specs.Table.{item_place}

-- an item has its place alone
pub place_alone : (i j : RefItem) → item_place i ≡ item_place j → i ≡ j
place_alone (item.Field k) (item.Field m) e = ap item.Field (omega arith)
place_alone (item.Signal k) (item.Signal m) e = ap item.Signal (omega arith)
place_alone (item.Anded k) (item.Anded m) e = ap item.Anded (omega arith)
place_alone (item.Ored k) (item.Ored m) e = ap item.Ored (omega arith)
place_alone (item.Xored k) (item.Xored m) e = ap item.Xored (omega arith)
place_alone (item.IncrThreshold k) (item.IncrThreshold m) e = ap item.IncrThreshold (omega arith)
place_alone (item.DecrThreshold k) (item.DecrThreshold m) e = ap item.DecrThreshold (omega arith)
place_alone (item.Overflow k) (item.Overflow m) e = ap item.Overflow (omega arith)
place_alone (item.Underflow k) (item.Underflow m) e = ap item.Underflow (omega arith)
place_alone (item.SwMod k) (item.SwMod m) e = ap item.SwMod (omega arith)
place_alone (item.SwAcc k) (item.SwAcc m) e = ap item.SwAcc (omega arith)
place_alone (item.Intr k) (item.Intr m) e = ap item.Intr (omega arith)
place_alone (item.Halt k) (item.Halt m) e = ap item.Halt (omega arith)
place_alone i j e = absurd (omega arith)

use Rattle.std.proofs.Common.{◌≡◌, ◌<◌, ℕ, Some, slice_get}
use Rattle.rb_model.specs.declared.kinds.RefItem.{RefItem}
use Rattle.block_plan.specs.Table as spec
use Rattle.block_plan.proofs.table.table_len.Given as goal

abbrev pub invariant-loop-item : goal.invariant-loop-item
invariant-loop-item l = record {
  seen : (k : ℕ) (i : RefItem) → k < l.item-index → slice_get l.items k ≡ Some i → spec.item_place i < l.len;
}

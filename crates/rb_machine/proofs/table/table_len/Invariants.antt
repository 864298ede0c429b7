use Rattle.std.proofs.Common.{◌≡◌, ◌<◌, ℕ, Some, slice_get}
use Rattle.rb_model.specs.declared.kinds.RefItem.{RefItem}
use Rattle.rb_machine.specs.Table as spec
use Rattle.rb_machine.proofs.table.table_len.Given as goal

abbrev pub invariant-loop-item : goal.invariant-loop-item
invariant-loop-item l = record {
  seen : (k : ℕ) (i : RefItem) → k < l.item-index → slice_get l.items k ≡ Some i → spec.place_of i < l.len;
}

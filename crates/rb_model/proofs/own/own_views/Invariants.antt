use Rattle.std.proofs.Common.{◌≡◌, ℕ, ◌<◌, false, Some, slice_get, slice_index, vec_len}
use Rattle.rb_model.specs.declared.block.View.{View}
use Rattle.rb_model.specs.Own.{IsOwnView}
use Rattle.rb_model.proofs.own.own_views.Given as goal

abbrev pub invariant-loop-number : goal.invariant-loop-number
invariant-loop-number l = record {
  len : vec_len l.own ≡ l.fields;
  seen : (h : ℕ) (v : View) → h < l.number → slice_get l.views h ≡ Some v → v.alias ≡ false → IsOwnView l.views v.field (slice_index l.own.items v.field);
}

use Rattle.std.proofs.Common.{◌≡◌, ◌<◌, ℕ, Some, slice_get, length, map, take}
use Rattle.std.specs.List.{flat_map, enumerate_from}
use Rattle.rb_model.specs.declared.block.Field.{Field}
use Rattle.rb_model.specs.Kept.{kept_of}
use Rattle.block_plan.specs.declared.kept.FieldKept.{FieldKept}
use Rattle.block_plan.specs.Kept.{AreFieldKept, kept_seen}
use Rattle.block_plan.proofs.kept.kept_values.Given as goal

abbrev pub invariant-loop-index : goal.invariant-loop-index
invariant-loop-index l = record {
  all : map kept_seen l.all.items ≡ flat_map kept_of (enumerate_from 0 (take l.index l.fields));
  sized : length l.of.items ≡ l.index;
  placed : (k : ℕ) (f : Field) → k < l.index → slice_get l.fields k ≡ Some f → (p : FieldKept) × (slice_get l.of.items k ≡ Some p) × AreFieldKept (map kept_seen l.all.items) k f p;
}

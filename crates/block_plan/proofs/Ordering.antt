-- The order of a block's items.
use Rattle.std.proofs.Common.{◌≡◌, ℕ, ◌<◌, Some, List, length, slice_get, get_or, sym, ap, ◌∙◌}
use Rattle.std.proofs.lemmas.Option.{slice_get-get_or}
use Rattle.rb_model.specs.declared.kinds.RefItem.{RefItem}
use Rattle.rb_model.specs.declared.block.Block.{Block}

-- the item at a place of the order
pub here_at : (b : Block) (read : List RefItem) (k : ℕ) (d : RefItem) → read ≡ b.order → k < length read → slice_get b.order k ≡ Some (get_or read k d)
here_at b read k d same low = ap (λ l. slice_get l k) (sym same) ∙ slice_get-get_or read k d low

-- Which bits of a word are those of fields.
use Rattle.std.specs.Prelude.{ℕ, ◌+◌, Bool, ◌&&◌, nat_le, nat_lt}
use Rattle.rb_model.specs.declared.block.Block.{Block}
use Rattle.rb_model.specs.declared.block.Slot.{Slot}
use Rattle.rb_model.specs.declared.block.View.{View}
use Rattle.rb_model.specs.Sound.{view_passes}

-- the slot has bit i of the word
abbrev pub covers : ℕ → Slot → Bool
covers i s = nat_le s.low i && nat_lt i (s.low + s.bits)

-- and its view passes the test
abbrev pub shows_at : Block → (View → Bool) → ℕ → Slot → Bool
shows_at b test i s = covers i s && view_passes b test s

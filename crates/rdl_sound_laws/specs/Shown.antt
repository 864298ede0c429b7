-- What words and their slots are of.
use Rattle.std.specs.Prelude.{◌≡◌, ◌⊎◌, ◌+◌, ◌<◌, ◌≤◌, ◌&&◌, IsTrue, Some, length, slice_get}
use Rattle.rb_model.specs.declared.block.Block.{Block}
use Rattle.rb_model.specs.declared.block.Slot.{Slot}
use Rattle.rb_model.specs.declared.block.View.{View}
use Rattle.rb_model.specs.declared.block.Word.{Word}
use Rattle.rb_model.specs.Sound.{share_bit, view_passes}

-- The word has 8, 16 or 32 bits, and is one of a register of the block.
pub record IsOfRegister (b : Block) (w : Word) : Type 0 where
  pub wide : (w.width ≡ 8) ⊎ (w.width ≡ 16) ⊎ (w.width ≡ 32)
  pub in_register : w.reg < length b.regs

-- The slot shows one bit or more of a view of the block, within the word.
pub record IsShown (b : Block) (w : Word) (s : Slot) : Type 0 where
  pub view : View
  pub of_view : slice_get b.views s.view ≡ Some view
  pub some_bit : 0 < s.bits
  pub in_word : s.low + s.bits ≤ w.width

-- Two slots of one word that share a bit are not both read, and not both written.
pub record StandApart (b : Block) (s t : Slot) : Type 0 where
  pub one_reads : IsTrue (share_bit s t && view_passes b (λ v. v.reads) s && view_passes b (λ v. v.reads) t) → ⊥
  pub one_writes : IsTrue (share_bit s t && view_passes b (λ v. v.writes) s && view_passes b (λ v. v.writes) t) → ⊥

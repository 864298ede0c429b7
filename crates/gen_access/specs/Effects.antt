-- What software makes of fields, by the words that it reaches.
use Rattle.std.specs.Prelude.{◌≡◌, ℕ, ◌&&◌, Bool, IsTrue, if◌then◌else◌, Option, Some, List, slice_get}
use Rattle.rtl_net.specs.Value.{bit_of}
use Rattle.rtl_net.specs.Net.{Net, Stands}
use Rattle.rtl_net.specs.declared.node.Id.{Id}
use Rattle.rb_model.specs.declared.block.Block.{Block}
use Rattle.rb_model.specs.declared.block.Field.{Field}
use Rattle.rb_model.specs.declared.block.View.{View}
use Rattle.rb_model.specs.declared.block.Slot.{Slot}
use Rattle.rb_model.specs.declared.block.Word.{Word}
use Rattle.rb_model.specs.Effects.{acts, has_read_effect}
use Rattle.rb_model.specs.Kept.{Done}
use Rattle.rb_model.specs.Items.{Access, Now, ItemValues, shows}
use Rattle.rb_model.specs.Sound.{view_passes}
use Rattle.rb_model.specs.Machine.{slot_read, slot_written, view_gate}
use Rattle.gen_scene.specs.declared.base.Inlet.{Inlet}
use Rattle.gen_scene.specs.Worth.{IsWorth}
use Rattle.gen_access.specs.declared.software.Effect.{Effect}
use Rattle.gen_access.specs.declared.software.Effect.TheVariants as effect
use Rattle.gen_access.specs.Words.{SlotStep, data_of, is_at, read_word, reads_through, written_word, writes_through}

abbrev pub reached_by : Effect → Access → Option ℕ
reached_by effect.Written a = written_word a
reached_by effect.Read a = read_word a
reached_by effect.Used a = written_word a

-- what an access does something through, and the views through which it has the effect
abbrev pub ways_of : Effect → View → Bool
ways_of effect.Written u = writes_through u
ways_of effect.Read u = reads_through u
ways_of effect.Used u = writes_through u

abbrev pub has_effect : Effect → View → Bool
has_effect effect.Written u = u.writes
has_effect effect.Read u = has_read_effect u.on_read
has_effect effect.Used u = u.once

abbrev pub words_of : Block → Effect → List Word
words_of b effect.Written = b.writes
words_of b effect.Read = b.reads
words_of b effect.Used = b.writes

-- what it is an effect on: a field's value, or whether it was written, of one bit
abbrev pub width_of : Effect → Field → ℕ
width_of effect.Written f = f.width
width_of effect.Read f = f.width
width_of effect.Used f = 1

abbrev pub slot_effect : Block → Effect → SlotStep
slot_effect b effect.Written n v k f x s = slot_written b n v k f (data_of n.access) x s
slot_effect b effect.Read n v k f x s = slot_read b k f x s
slot_effect b effect.Used n v k f x s = if shows b k (λ w. w.once && acts w (view_gate n v w) (n.kept (Done k))) s then 1 else x

-- a node is what an effect through slot s makes of a node v of field k, where hit says whether the access reaches the slot if
-- it has the effect there
pub record IsPut (b : Block) (a : Inlet) (old new : Net) (e : Effect) (s : Slot) (k : ℕ) (hit v id : Id) : Type 0 where
  pub stands : (f : Field) → slice_get b.fields k ≡ Some f → Stands new id (width_of e f)
  pub worth : (j : ℕ) (f : Field) (g : Now → ItemValues → ℕ) → slice_get b.fields k ≡ Some f → (IsTrue (view_passes b (has_effect e) s) → IsWorth b a old hit 1 (λ n u. bit_of (is_at j (reached_by e n.access))))
      → IsWorth b a old v (width_of e f) g → IsWorth b a new id (width_of e f) (λ n u. if is_at j (reached_by e n.access) then slot_effect b e n u k f (g n u) s else g n u)

-- Which fields an access touches.
use Rattle.std.specs.Prelude.{◌≡◌, ℕ, ◌<◌, ◌&&◌, Bool, if◌then◌else◌, Option, List, length}
use Rattle.v_design.specs.Expr.{bit_of}
use Rattle.rtl_net.specs.Ids.{at}
use Rattle.rtl_net.specs.declared.node.Id.{Id}
use Rattle.rb_model.specs.declared.kinds.RefItem.{RefItem}
use Rattle.rb_model.specs.declared.kinds.RefItem.TheVariants as item
use Rattle.rb_model.specs.declared.block.Block.{Block}
use Rattle.rb_model.specs.declared.block.Field.{Field}
use Rattle.rb_model.specs.declared.block.View.{View}
use Rattle.rb_model.specs.declared.block.Word.{Word}
use Rattle.rb_model.specs.Effects.{has_read_effect}
use Rattle.rb_model.specs.Items.{Access, Now, reaches, shows}
use Rattle.gen_scene.specs.declared.items.Marks.{Marks}
use Rattle.block_plan.specs.Wanted.{is_wanted}
use Rattle.gen_scene.specs.Items.{mark_at}
use Rattle.gen_access.specs.declared.touched.Strobe.{Strobe}
use Rattle.gen_access.specs.declared.touched.Strobe.TheVariants as mark
use Rattle.gen_access.specs.declared.touched.Touch.{Touch}
use Rattle.gen_access.specs.declared.touched.Touch.TheVariants as touch
use Rattle.gen_access.specs.Tables.{Step}
use Rattle.gen_access.specs.Words.{SlotStep, below, read_word, reads_through, written_word, writes_through}

-- the item of a field that the mark is
abbrev pub mark_item : Strobe → ℕ → RefItem
mark_item mark.Modified k = item.SwMod k
mark_item mark.Accessed k = item.SwAcc k

-- a view through which an access touches its field so
abbrev pub touches : Touch → View → Bool
touches touch.ReadsWithEffect u = has_read_effect u.on_read
touches touch.Reads u = u.reads
touches touch.Writes u = u.writes

abbrev pub touch_reached : Touch → Access → Option ℕ
touch_reached touch.ReadsWithEffect a = read_word a
touch_reached touch.Reads a = read_word a
touch_reached touch.Writes a = written_word a

abbrev pub touch_ways : Touch → View → Bool
touch_ways touch.ReadsWithEffect u = reads_through u
touch_ways touch.Reads u = reads_through u
touch_ways touch.Writes u = writes_through u

abbrev pub touch_words : Block → Touch → List Word
touch_words b touch.ReadsWithEffect = b.reads
touch_words b touch.Reads = b.reads
touch_words b touch.Writes = b.writes

-- one bit for each field
abbrev pub one_bit : Field → ℕ
one_bit f = 1

-- a slot that touches a field whose mark is wanted makes its mark 1
abbrev pub slot_mark : Block → List Bool → Strobe → Touch → SlotStep
slot_mark b wanted m t n v k f x s = if is_wanted wanted (mark_item m k) && shows b k (touches t) s then 1 else x

-- a touch by reads
abbrev pub IsReading : Touch → Type 0
IsReading touch.ReadsWithEffect = Unit {0}
IsReading touch.Reads = Unit {0}
IsReading touch.Writes = ⊥

-- whether the access touches field k, by reads in this way or by writes
abbrev pub mark_value : Block → Touch → Now → ℕ → ℕ
mark_value b reading n k = bit_of (reaches b n.access k (touches reading) (λ u. u.writes))

-- both marks of each field
pub record ArePaired (modified accessed : List Id) (all : List Marks) : Type 0 where
  pub long : length all ≡ length modified
  pub each : (k : ℕ) → k < length modified → ((mark_at all k).modified ≡ at modified k) × ((mark_at all k).accessed ≡ at accessed k)

-- what all words make of a mark of field k: first those that are read, then those that are written
abbrev pub marks_step : Block → List Bool → Strobe → Touch → Step
marks_step b wanted m t n v k f x =
    below b.writes written_word (slot_mark b wanted m touch.Writes) (length b.writes) n v k f
    (below (touch_words b t) (touch_reached t) (slot_mark b wanted m t) (length (touch_words b t)) n v k f x)

-- What an access does through the slots of its word.
use Rattle.std.specs.Prelude.{ℕ, ◌==◌, ◌&&◌, ◌||◌, if◌then◌else◌, List, fold, slice_get}
use Rattle.std.specs.Option.{option_map_or}
use Rattle.rb_model.specs.declared.block.Block.{Block}
use Rattle.rb_model.specs.declared.block.View.{View}
use Rattle.rb_model.specs.declared.block.Slot.{Slot}
use Rattle.rb_model.specs.Kept.{Done, of_field}
use Rattle.rb_model.specs.Effects.{acts, after_read, after_write, has_read_effect}
use Rattle.rb_model.specs.Items.{Access, NoAccess, Read, Write, Now, ItemValues, slots_of}
use Rattle.rb_model.specs.Machine.{slot_bits, view_gate}
use Rattle.rb_machine.specs.declared.sight.FieldState.{FieldState}
use Rattle.rb_machine.specs.declared.scene.Strobes.{Strobes}

abbrev pub no_slot : Slot
no_slot = record { view = 0; low = 0; from = 0; bits = 0 }

-- what a slot makes of x, which is of field k
abbrev pub touched : {X : Type 0} → Block → ℕ → (View → Slot → X → X) → X → Slot → X
touched b k g x s = option_map_or (λ w. if w.field == k then g w s x else x) (slice_get b.views s.view) x

-- what slots in turn make of it
abbrev pub touched_by : {X : Type 0} → Block → ℕ → (View → Slot → X → X) → X → List Slot → X
touched_by b k g x ss = fold (touched b k g) x ss

abbrev pub read_mark : View → Slot → Strobes → Strobes
read_mark w s m = record { modified = m.modified || has_read_effect w.on_read; accessed = m.accessed || w.reads }

abbrev pub write_mark : View → Slot → Strobes → Strobes
write_mark w s m = record { modified = m.modified || w.writes; accessed = m.accessed || w.writes }

abbrev pub width_at : Block → ℕ → ℕ
width_at b k = of_field b k 0 (λ f. f.width)

-- what a read makes of what a field keeps
abbrev pub read_state : Block → View → Slot → FieldState → FieldState
read_state b w s x = record { value = after_read w.on_read (width_at b w.field) x.value; last = x.last; done = x.done }

-- what a write of the data d makes of it, where the field is so wide, the view's gate has a value, and so has the mark of a write
abbrev pub written_by : (width gate done d : ℕ) → View → Slot → FieldState → FieldState
written_by width gate done d w s x = record {
  value = after_write w width gate done x.value (slot_bits s d);
  last = x.last;
  done = if w.once && acts w gate done then 1 else x.done;
}

abbrev pub write_state : Block → Now → ItemValues → (d : ℕ) → View → Slot → FieldState → FieldState
write_state b n v d w s x = written_by (width_at b w.field) (view_gate n v w) (n.kept (Done w.field)) d w s x

-- what an access makes of it
abbrev pub access_state : Block → Now → ItemValues → Access → ℕ → FieldState → FieldState
access_state b n v NoAccess k x = x
access_state b n v (Read i) k x = touched_by b k (read_state b) x (slots_of b.reads i)
access_state b n v (Write i d) k x = touched_by b k (write_state b n v d) x (slots_of b.writes i)

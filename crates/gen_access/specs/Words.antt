-- The words that an access reaches.
use Rattle.std.specs.Prelude.{◌≡◌, ℕ, ◌+◌, ◌<◌, ◌≤◌, ◌==◌, ◌||◌, nat_lt, Bool, false, if◌then◌else◌, IsTrue, Option, Some, None, List, length, fold, get_or, slice_get}
use Rattle.std.specs.List.{list_any}
use Rattle.std.specs.Option.{option_map_or}
use Rattle.rtl_net.specs.Value.{bit_of}
use Rattle.rtl_net.specs.Net.{Net, Stands}
use Rattle.rtl_net.specs.Ids.{at}
use Rattle.rtl_net.specs.declared.node.Id.{Id}
use Rattle.rb_model.specs.declared.block.Block.{Block}
use Rattle.rb_model.specs.declared.block.Field.{Field}
use Rattle.rb_model.specs.declared.block.View.{View}
use Rattle.rb_model.specs.declared.block.Slot.{Slot}
use Rattle.rb_model.specs.declared.block.Word.{Word}
use Rattle.rb_model.specs.Effects.{has_read_effect}
use Rattle.rb_model.specs.Sound.{view_passes}
use Rattle.rb_model.specs.SoundField.{changes}
use Rattle.rb_model.specs.Items.{Access, NoAccess, Read, Write, Now, ItemValues, slots_of}
use Rattle.gen_scene.specs.declared.base.Inlet.{Inlet}
use Rattle.gen_scene.specs.Worth.{IsWorth}
use Rattle.gen_access.specs.declared.reached.Way.{Way}
use Rattle.gen_access.specs.declared.reached.Way.TheVariants as way
use Rattle.gen_access.specs.Tables.{Step}

-- the bits that an access writes
abbrev pub data_of : Access → ℕ
data_of NoAccess = 0
data_of (Read i) = 0
data_of (Write i d) = d

-- the number of the word that an access reads, or writes
abbrev pub read_word : Access → Option ℕ
read_word NoAccess = None
read_word (Read i) = Some i
read_word (Write i d) = None

abbrev pub written_word : Access → Option ℕ
written_word NoAccess = None
written_word (Read i) = None
written_word (Write i d) = Some i

abbrev pub is_at : ℕ → Option ℕ → Bool
is_at j o = option_map_or (λ i. i == j) o false

-- a read, or a write, does something through a view
abbrev pub reads_through : View → Bool
reads_through u = u.reads || has_read_effect u.on_read

abbrev pub writes_through : View → Bool
writes_through u = u.writes || u.once

abbrev pub acts_through : Way → View → Bool
acts_through way.Reads u = reads_through u
acts_through way.Writes u = writes_through u

-- the test passes some view of a word
abbrev pub passes_some : Block → (View → Bool) → List Slot → Bool
passes_some b acts slots = list_any (view_passes b acts) slots

-- whether each word has a view that passes the test
pub record AreMarkedWords (b : Block) (acts : View → Bool) (words : List Word) (marks : List Bool) : Type 0 where
  pub long : length marks ≡ length words
  pub each : (j : ℕ) (w : Word) → slice_get words j ≡ Some w → get_or marks j false ≡ passes_some b acts w.slots

-- one node for each word, which says whether the access reaches that one, if it does something there
pub record AreHitsOf (b : Block) (a : Inlet) (net : Net) (words : List Word) (reached : Access → Option ℕ) (acts : View → Bool) (hits : List Id) : Type 0 where
  pub long : length hits ≡ length words
  pub stand : (j : ℕ) → j < length words → Stands net (at hits j) 1
  pub each : (j : ℕ) (w : Word) → slice_get words j ≡ Some w → IsTrue (passes_some b acts w.slots) → IsWorth b a net (at hits j) 1 (λ n v. bit_of (is_at j (reached n.access)))

-- what one slot makes of a number of field k
abbrev pub SlotStep : Type 0
SlotStep = Now → ItemValues → ℕ → Field → ℕ → Slot → ℕ

-- what the slots of the reached word make of it in turn, if that is one of the first j
abbrev pub below : List Word → (Access → Option ℕ) → SlotStep → ℕ → Step
below words reached each j n v k f x = option_map_or (λ i. if nat_lt i j then fold (each n v k f) x (slots_of words i) else x) (reached n.access) x

-- a slot of a sound word
pub record SlotFits (b : Block) (s : Slot) : Type 0 where
  pub view : View
  pub field : Field
  pub of_view : slice_get b.views s.view ≡ Some view
  pub of_field : slice_get b.fields view.field ≡ Some field
  pub some_bit : 0 < s.bits
  pub in_word : s.low + s.bits ≤ 32
  pub in_field : s.from + s.bits ≤ field.width
  pub whole : IsTrue (changes view) → (s.from ≡ 0) × (s.bits ≡ field.width)

-- What an edge makes of a block, as nodes.
use Rattle.std.specs.Prelude.{◌≡◌, ℕ, ◌<◌, ◌&&◌, true, false, IsTrue, if◌then◌else◌, Option, Some, unwrap_or, List, length, slice_get, fold, bit_or}
use Rattle.rtl_net.specs.Value.{bit_of}
use Rattle.rtl_net.specs.Net.{Net, Stands}
use Rattle.rtl_net.specs.Ids.{at}
use Rattle.rtl_net.specs.declared.node.Id.{Id}
use Rattle.rb_model.specs.declared.kinds.RefItem.TheVariants as item
use Rattle.rb_model.specs.declared.block.Block.{Block}
use Rattle.rb_model.specs.declared.block.Field.{Field}
use Rattle.rb_model.specs.declared.block.Slot.{Slot}
use Rattle.rb_model.specs.Kept.{Kept, Map, Val, Last, Done, Waited, Data, Error, is_storage, keeps_last, register_width, field_kept}
use Rattle.gen_scene.specs.Bases.{kept_number, kept_reset, kept_width}
use Rattle.rb_model.specs.Items.{Now, ItemValues}
use Rattle.rb_model.specs.Machine.{changed, is_asserted, moved, reset_where, slot_value, software, uses_up}
use Rattle.gen_clock.specs.declared.stacks.Stack.{Stack}
use Rattle.gen_clock.specs.Stacks.{MayStack, stacked}
use Rattle.block_plan.specs.Table.{item_place}
use Rattle.gen_scene.specs.declared.base.Inlet.{Inlet}
use Rattle.gen_scene.specs.declared.scene.Scene.{Scene}
use Rattle.gen_scene.specs.Bases.{IsBase}
use Rattle.gen_scene.specs.Items.{IsItem}
use Rattle.gen_scene.specs.Worth.{IsRead, IsWorth}
use Rattle.gen_access.specs.Tables.{HasViews, Step}
use Rattle.gen_access.specs.Words.{is_at, passes_some, read_word, reads_through}
use Rattle.gen_clock.specs.Moves.{HasFields, moved_in}

-- a netlist has the nodes of a sound block that an edge refers to
pub record IsScene (net : Net) (s : Scene) : Type 0 where
  pub base : IsBase net s.base.now
  pub values : (k : ℕ) (f : Field) → slice_get s.base.now.block.now.fields k ≡ Some f → IsItem s.base.now.block.now s.base.now.inlet net s.items.now (item.Field k)
  pub fields : HasFields net s
  pub views : HasViews net s

-- the bits that slots show, together
abbrev pub shown_by : Block → ItemValues → List Slot → ℕ
shown_by b v slots = fold (λ acc s. bit_or acc (slot_value b v s)) 0 slots

-- what stands of a word after a step is what stood before and these bits, together
pub record IsLaidOn (b : Block) (a : Inlet) (old new : Net) (before after : Option Stack) (bits : ItemValues → ℕ) : Type 0 where
  pub may : MayStack new 32 after
  pub read : (g : Now → ItemValues → ℕ) → IsRead b a old (λ x. stacked x before) g → IsRead b a new (λ x. stacked x after) (λ n v. bit_or (g n v) (bits v))

-- the nodes of what fields that keep a value have next, but for resets
pub record AreMoved (b : Block) (a : Inlet) (net : Net) (ids : List Id) : Type 0 where
  pub long : length ids ≡ length b.fields
  pub each : (k : ℕ) (f : Field) → slice_get b.fields k ≡ Some f → is_storage f.class ≡ true → IsWorth b a net (at ids k) f.width (λ n v. changed b n v k f (n.kept (Val k)))

-- the nodes of whether fields that may be written once were written, but for resets
pub record AreUsed (b : Block) (a : Inlet) (net : Net) (ids : List Id) : Type 0 where
  pub long : length ids ≡ length b.fields
  pub each : (k : ℕ) (f : Field) → slice_get b.fields k ≡ Some f → f.once ≡ true → IsWorth b a net (at ids k) 1 (λ n v. if uses_up b n v n.access k then 1 else n.kept (Done k))

-- what registers take: what fields have next, where synchronous resets have acted
abbrev pub to_take : Block → Now → ItemValues → Map
to_take b n v = reset_where b (λ f. is_asserted b n.pins f.reset_by && f.reset_by.sync) (moved b n v)

-- what an edge makes of a number of field k: hardware where software has the last word, software, and hardware where it has that
abbrev pub edge_step : Block → Step
edge_step b n v k f x = moved_in true n v k f (software b n v n.access k f (moved_in false n v k f x))

-- the table has the node of each field's value
pub record AreValues (s : Scene) (ids : List Id) : Type 0 where
  pub long : length ids ≡ length s.base.now.block.now.fields
  pub each : (k : ℕ) → k < length ids → at ids k ≡ at s.items.now (item_place (item.Field k))

-- the table of items has a place for each field's value
pub record HasPlaces (s : Scene) : Type 0 where
  pub each : (k : ℕ) → k < length s.base.now.block.now.fields → item_place (item.Field k) < length s.items.now

-- a node is what the slots of word j show where hit says, if anything is read there, that the access reads that word, else 0
pub record IsAnswerOf (b : Block) (a : Inlet) (old new : Net) (hit : Id) (slots : List Slot) (id : Id) : Type 0 where
  pub stands : Stands new id 32
  pub worth : (j : ℕ) → (IsTrue (passes_some b reads_through slots) → IsWorth b a old hit 1 (λ n v. bit_of (is_at j (read_word n.access)))) → IsWorth b a new id 32 (λ n v. if is_at j (read_word n.access) then shown_by b v slots else 0)

-- what keeps a value: a field that has it
abbrev pub IsKeptBy : Block → Kept → Type 0
IsKeptBy b (Val k) = (f : Field) × (slice_get b.fields k ≡ Some f) × (is_storage f.class ≡ true)
IsKeptBy b (Last k) = (f : Field) × (slice_get b.fields k ≡ Some f) × (keeps_last f.latch ≡ true)
IsKeptBy b (Done k) = (f : Field) × (slice_get b.fields k ≡ Some f) × (f.once ≡ true)
IsKeptBy b Waited = ⊥
IsKeptBy b Data = ⊥
IsKeptBy b Error = ⊥

abbrev pub number_in : Kept → ℕ
number_in k = unwrap_or (kept_number k) 0

-- a node is what a synchronous reset makes of another that is worth the kept value k of a map
pub record IsReset (b : Block) (a : Inlet) (old new : Net) (k : Kept) (f : Field) (before after : Id) : Type 0 where
  pub stands : Stands new after (kept_width k f)
  pub worth : (g : Now → ItemValues → ℕ) → IsWorth b a old before (kept_width k f) g
      → IsWorth b a new after (kept_width k f) (λ n v. if is_asserted b n.pins f.reset_by && f.reset_by.sync then unwrap_or (kept_reset k f) (g n v) else g n v)

-- the nodes of what the registers take
pub record AreNexts (b : Block) (a : Inlet) (net : Net) (ids : List Id) : Type 0 where
  pub long : length ids ≡ length (field_kept b)
  pub each : (j : ℕ) (k : Kept) → slice_get (field_kept b) j ≡ Some k → IsWorth b a net (at ids j) (register_width b k) (λ n v. to_take b n v k)

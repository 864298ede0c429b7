-- When a block is sound: what every call that takes a block may rely on.
use Rattle.std.specs.Prelude.{◌≡◌, ◌⊎◌, ℕ, ◌+◌, ◌<◌, ◌≤◌, ◌==◌, Bool, false, not, ◌&&◌, nat_lt, IsTrue, Some, List, length, slice_get, map, count_by, AllPairs, IsPermutation}
use Rattle.std.specs.List.{enumerate_from, flat_map, list_any, list_all}
use Rattle.std.specs.List.Sorted.{IsStrictlyIncreasing}
use Rattle.std.specs.Option.{option_map_or}
use Rattle.v_design.specs.Lexemes.{is_name, is_name_byte}
use Rattle.v_design.specs.WellFormed.{distinct}
use Rattle.rb_model.specs.declared.block.Block.{Block}
use Rattle.rb_model.specs.declared.block.Field.{Field}
use Rattle.rb_model.specs.declared.block.View.{View}
use Rattle.rb_model.specs.declared.block.Slot.{Slot}
use Rattle.rb_model.specs.declared.block.Word.{Word}
use Rattle.rb_model.specs.declared.block.Reg.{Reg}
use Rattle.rb_model.specs.Ports.{signal_name}
use Rattle.rb_model.specs.Items.{items, is_interrupt, is_on}
use Rattle.rb_model.specs.References.{Each, gate_refs, AreWide, IsOrdered}
use Rattle.rb_model.specs.SoundField.{FieldIsSoundIn, changes, is_gate_fed}

-- Views, registers and words

pub record ViewIsSound (b : Block) (v : ℕ × View) : Type 0 where
  pub of : (f : Field) × (slice_get b.fields v.1.field ≡ Some f) × (v.1.alias ≡ false → v.1.path ≡ f.path)
  pub gate_fed : IsTrue (is_gate_fed v.1.gate)
  pub gate_bit : AreWide b 1 (gate_refs v.1.gate)
  -- a view through which software changes the field stands in one slot of those that a read reaches, and of those that a
  -- write reaches
  pub read_in_one_slot : IsTrue (changes v.1) → count_by (λ s. s.view == v.0) (flat_map (λ w. w.slots) b.reads) ≤ 1
  pub written_in_one_slot : IsTrue (changes v.1) → count_by (λ s. s.view == v.0) (flat_map (λ w. w.slots) b.writes) ≤ 1

pub record RegIsSound (b : Block) (r : ℕ × Reg) : Type 0 where
  pub intr : r.1.intr ≡ (not r.1.alias && list_any (λ f. f.reg == r.0 && is_interrupt f.latch) b.fields)
  pub halt : r.1.halt ≡ (not r.1.alias && list_any (λ f. f.reg == r.0 && is_interrupt f.latch && is_on f.halt) b.fields)

pub record SlotIsSound (b : Block) (w : Word) (s : Slot) : Type 0 where
  pub view : View
  pub field : Field
  pub of_view : slice_get b.views s.view ≡ Some view
  pub of_field : slice_get b.fields view.field ≡ Some field
  pub some_bit : 0 < s.bits
  pub in_word : s.low + s.bits ≤ w.width
  pub in_field : s.from + s.bits ≤ field.width
  pub whole : IsTrue (changes view) → (s.from ≡ 0) × (s.bits ≡ field.width)

-- a test of a slot's view
abbrev pub view_passes : Block → (View → Bool) → Slot → Bool
view_passes b test s = option_map_or test (slice_get b.views s.view) false

abbrev pub share_bit : Slot → Slot → Bool
share_bit s t = nat_lt s.low (t.low + t.bits) && nat_lt t.low (s.low + s.bits)

abbrev pub field_number : Block → Slot → ℕ
field_number b s = option_map_or (λ v. v.field) (slice_get b.views s.view) 0

-- two slots of one word
pub record StandTogether (b : Block) (s t : Slot) : Type 0 where
  pub one_view : field_number b s ≡ field_number b t → s.view ≡ t.view
  pub one_reads : IsTrue (share_bit s t && view_passes b (λ v. v.reads) s && view_passes b (λ v. v.reads) t) → ⊥
  pub one_writes : IsTrue (share_bit s t && view_passes b (λ v. v.writes) s && view_passes b (λ v. v.writes) t) → ⊥

pub record WordIsSound (b : Block) (w : Word) : Type 0 where
  pub wide : (w.width ≡ 8) ⊎ (w.width ≡ 16) ⊎ (w.width ≡ 32)
  pub in_register : w.reg < length b.regs
  pub slots : Each (SlotIsSound b w) w.slots
  pub together : AllPairs (StandTogether b) w.slots

abbrev pub is_path : List ℕ → Bool
is_path path = list_all is_name_byte path

pub record IsSound (b : Block) : Type 0 where
  pub named : IsTrue (is_name b.name && list_all (λ c. not (c == 36)) b.name)
  pub signals : Each (λ s. (0 < s.width) × (s.width ≤ 64) × IsTrue (is_path s.path)) b.signals
  pub fields : Each (FieldIsSoundIn b) (enumerate_from 0 b.fields)
  pub views : Each (ViewIsSound b) (enumerate_from 0 b.views)
  pub regs : Each (RegIsSound b) (enumerate_from 0 b.regs)
  pub reads : Each (WordIsSound b) b.reads
  pub writes : Each (WordIsSound b) b.writes
  pub some_word : (0 < length b.reads) × (length b.reads ≤ 65536)
  pub by_address : IsStrictlyIncreasing (map (λ w. w.address) b.reads)
  pub same_addresses : map (λ w. w.address) b.reads ≡ map (λ w. w.address) b.writes
  pub signal_paths : IsTrue (distinct (map signal_name b.signals))
  pub field_paths : IsTrue (distinct (map (λ f. f.path) b.fields) && list_all (λ f. is_path f.path) b.fields)
  pub view_paths : IsTrue (distinct (map (λ v. v.path) b.views) && list_all (λ v. is_path v.path) b.views)
  pub reg_paths : IsTrue (distinct (map (λ r. r.path) b.regs) && list_all (λ r. is_path r.path) b.regs)
  pub waits : b.waits ≤ 1
  pub all_items : IsPermutation (items b) b.order
  pub ordered : IsOrdered b b.order

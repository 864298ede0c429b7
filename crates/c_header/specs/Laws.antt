-- What a header says of the words and the enumerations of a block.
use Rattle.std.specs.Prelude.{◌≡◌, ℕ, ◌-◌, ◌*◌, ◌^◌, ◌<◌, ◌==◌, false, not, IsTrue, List, [], ◌∷◌, Some, length, map, slice_get}
use Rattle.std.specs.List.{list_all}
use Rattle.encodings.specs.Encodings.{Enumeration}
use Rattle.rb_model.specs.declared.block.Block.{Block}
use Rattle.rb_model.specs.declared.block.Field.{Field}
use Rattle.rb_model.specs.declared.block.Slot.{Slot}
use Rattle.rb_model.specs.declared.block.Word.{Word}
use Rattle.rb_model.specs.declared.kinds.RefItem.TheVariants as item
use Rattle.rb_model.specs.Items.{ItemValues}
use Rattle.rb_model.specs.References.{Each}
use Rattle.rb_model.specs.SoundField.{is_wire}
use Rattle.v_design.specs.WellFormed.{distinct}
use Rattle.word_groups.specs.declared.entries.Entry.{Entry}
use Rattle.word_groups.specs.declared.parts.Part.{Part}
use Rattle.word_groups.specs.Entries.{path_of}
use Rattle.c_header.specs.Macros.{Offset, value_at}
use Rattle.word_groups.specs.Parts.{parts}
use Rattle.word_groups.specs.Paths.{indices, names_of}

-- x stands in the list
abbrev pub Has : {X : Type 0} → List X → X → Type 0
Has xs x = (k : ℕ) × (slice_get xs k ≡ Some x)

-- each index is below the count at its place
abbrev pub AreBelow : (indices counts : List ℕ) → Type 0
AreBelow is [] = Unit {0}
AreBelow [] (n ∷ ns) = Unit {0}
AreBelow (i ∷ is) (n ∷ ns) = (i < n) × AreBelow is ns

-- a part but for the number of its view, of which each element of an array has its own
abbrev pub viewless : Part → Part
viewless p = record p { view = 0 }

-- The entry says of the word, at the indices of its register, where it stands, how wide it is and what it shows.
pub record IsEntryOf (b : Block) (w : Word) (e : Entry) : Type 0 where
  pub names : names_of e.path ≡ names_of (path_of b w)
  pub number : e.number ≡ w.number
  pub offset : value_at (Offset e.address e.strides) (indices (path_of b w)) ≡ w.address
  pub counts : AreBelow (indices (path_of b w)) e.lengths
  pub width : e.bytes * 8 ≡ w.width
  pub parts : map viewless e.parts ≡ map viewless (parts b w)
  pub alone : e.strides ≡ [] → e.path ≡ path_of b w

-- The part says of the slot where its bits stand, in the word and in the field.
pub record IsPartOf (b : Block) (s : Slot) (p : Part) : Type 0 where
  pub shift : p.low ≡ s.low
  pub bits : p.bits ≡ s.bits
  pub mask : p.mask ≡ (2 ^ s.bits - 1) * 2 ^ s.low
  pub from : p.from ≡ s.from
  pub whole : IsTrue p.whole → s.from ≡ 0

-- each field that keeps a value has its reset value, if it has one
abbrev pub AreReset : Block → ItemValues → Type 0
AreReset b v = (k : ℕ) (f : Field) (r : ℕ) → slice_get b.fields k ≡ Some f → is_wire f.class ≡ false → f.reset ≡ Some r → v (item.Field k) ≡ r

-- The enumeration is one of a field of the block, and its enumerators have different names, without `$`.
pub record IsEnumerated (b : Block) (e : Enumeration) : Type 0 where
  pub field : e.field < length b.fields
  pub names : IsTrue (distinct (map (λ x. x.0) e.entries))
  pub plain : Each (λ x. IsTrue (list_all (λ c. not (c == 36)) x.0)) e.entries

-- Each enumeration is such a one, and no two have one first field.
pub record AreApart (b : Block) (es : List Enumeration) : Type 0 where
  pub each : Each (IsEnumerated b) es
  pub fields : (j k : ℕ) (d e : Enumeration) → slice_get es j ≡ Some d → slice_get es k ≡ Some e → d.field ≡ e.field → j ≡ k

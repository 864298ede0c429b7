-- The bits of a word that are bits of fields, as software sees them (SystemRDL 2.0, clause 9).
use Rattle.std.specs.Prelude.{◌≡◌, ◌<◌, ◌≤◌, ℕ, ◌+◌, ◌-◌, ◌*◌, ◌/◌, ◌%◌, ◌^◌, ◌==◌, Bool, true, false, not, ◌&&◌, cond, Option, None, Some, is_some, unwrap_or, List, [], ◌∷◌, ◌++◌, bytes_eq, bit_or, codes, flat_map, fold, slice_get}
use Rattle.std.specs.List.{list_all, list_any}
use Rattle.std.specs.Option.{option_map}
use Rattle.rb_model.specs.declared.block.Block.{Block}
use Rattle.rb_model.specs.declared.block.Field.{Field}
use Rattle.rb_model.specs.declared.block.Slot.{Slot}
use Rattle.rb_model.specs.declared.block.View.{View}
use Rattle.rb_model.specs.declared.block.Word.{Word}
use Rattle.rb_model.specs.declared.kinds.OnRead.{OnRead}
use Rattle.rb_model.specs.declared.kinds.OnRead.TheVariants as on_read
use Rattle.rb_model.specs.declared.kinds.OnWrite.{OnWrite}
use Rattle.rb_model.specs.declared.kinds.OnWrite.TheVariants as on_write
use Rattle.rb_model.specs.SoundField.{is_wire}
use Rattle.word_groups.specs.declared.parts.Part.{Part}
use Rattle.word_groups.specs.Paths.{last_name}

-- Access in the source's own words: `sw`, `onwrite`, `onread` and `singlepulse`.

abbrev pub sw_word : View → List ℕ
sw_word v = cond v.reads (cond v.writes (cond v.once (codes "rw1") (codes "rw")) (codes "r")) (cond v.writes (cond v.once (codes "w1") (codes "w")) (codes "na"))

abbrev pub write_word : OnWrite → List ℕ
write_word on_write.Off = []
write_word on_write.WoSet = codes " woset"
write_word on_write.WoClr = codes " woclr"
write_word on_write.WoT = codes " wot"
write_word on_write.WzS = codes " wzs"
write_word on_write.WzC = codes " wzc"
write_word on_write.WzT = codes " wzt"
write_word on_write.WClr = codes " wclr"
write_word on_write.WSet = codes " wset"

abbrev pub read_word : OnRead → List ℕ
read_word on_read.Off = []
read_word on_read.RClr = codes " rclr"
read_word on_read.RSet = codes " rset"

abbrev pub pulse_word : Bool → List ℕ
pulse_word b = cond b (codes " singlepulse") []

abbrev pub access : View → Field → List ℕ
access v f = sw_word v ++ write_word v.on_write ++ read_word v.on_read ++ pulse_word f.pulse

-- the bits of a field's reset value that the slot shows; a wire is what hardware gives
abbrev pub part_reset : Slot → Field → Option ℕ
part_reset s f = cond (is_wire f.class) None (option_map (λ r. r / 2 ^ s.from % 2 ^ s.bits) f.reset)

-- what they add to what a read gives where each field has its reset value
abbrev pub shows : Slot → View → Field → Option ℕ
shows s v f = cond v.reads (option_map (λ r. r * 2 ^ s.low) (part_reset s f)) (Some 0)

abbrev pub part : Slot → View → Field → Part
part s v f = record {
  view = s.view;
  name = last_name v.path;
  low = s.low;
  from = s.from;
  bits = s.bits;
  mask = (2 ^ s.bits - 1) * 2 ^ s.low;
  whole = s.from == 0 && s.bits == f.width;
  reads = v.reads;
  access = access v f;
  reset = part_reset s f;
  shows = shows s v f;
}

abbrev pub with_field : Slot → View → Option Field → List Part
with_field s v None = []
with_field s v (Some f) = part s v f ∷ []

abbrev pub with_view : Block → Slot → Option View → List Part
with_view b s None = []
with_view b s (Some v) = with_field s v (slice_get b.fields v.field)

-- a slot of a sound block has one
abbrev pub part_of : Block → Slot → List Part
part_of b s = with_view b s (slice_get b.views s.view)

abbrev pub parts : Block → Word → List Part
parts b w = flat_map (part_of b) w.slots

-- what a slot of a sound block has
pub record SlotFits (b : Block) (s : Slot) : Type 0 where
  pub some_bit : 0 < s.bits
  pub in_word : s.low + s.bits ≤ 32
  pub in_field : (v : View) (f : Field) → slice_get b.views s.view ≡ Some v → slice_get b.fields v.field ≡ Some f → s.from + s.bits ≤ 64

abbrev pub SlotsFit : Block → List Slot → Type 0
SlotsFit b slots = (k : ℕ) (s : Slot) → slice_get slots k ≡ Some s → SlotFits b s

-- What a read gives where each field has its reset value, if that is known.
abbrev pub resval : List Part → Option ℕ
resval ps = cond (list_any (λ p. p.reads) ps && list_all (λ p. is_some p.shows) ps) (Some (fold (λ n p. bit_or n (unwrap_or p.shows 0)) 0 ps)) None

-- Parts that software can't tell apart.

abbrev pub same_reset : Option ℕ → Option ℕ → Bool
same_reset None None = true
same_reset None (Some n) = false
same_reset (Some m) None = false
same_reset (Some m) (Some n) = m == n

abbrev pub same_bool : Bool → Bool → Bool
same_bool true c = c
same_bool false c = not c

abbrev pub have_like_bits : Part → Part → Bool
have_like_bits p q = p.low == q.low && p.from == q.from && p.bits == q.bits && p.mask == q.mask

abbrev pub have_like_access : Part → Part → Bool
have_like_access p q = same_bool p.whole q.whole && same_bool p.reads q.reads && same_reset p.reset q.reset && same_reset p.shows q.shows

abbrev pub have_like_names : Part → Part → Bool
have_like_names p q = bytes_eq p.name q.name && bytes_eq p.access q.access

abbrev pub is_like : Part → Part → Bool
is_like p q = have_like_bits p q && have_like_access p q && have_like_names p q

abbrev pub are_like : List Part → List Part → Bool
are_like [] [] = true
are_like [] (q ∷ qs) = false
are_like (p ∷ ps) [] = false
are_like (p ∷ ps) (q ∷ qs) = is_like p q && are_like ps qs

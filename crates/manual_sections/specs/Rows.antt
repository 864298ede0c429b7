-- What the page says of the fields of a word: one row of a table for each part.
use Rattle.std.specs.Prelude.{ℕ, ◌+◌, ◌-◌, Bool, ◌&&◌, cond, get_or, nat_le, nat_lt, List, [], ◌++◌, codes, decimal, flat_map, map, Option, None, Some, slice_get}
use Rattle.std.specs.List.{enumerate_from}
use Rattle.rb_model.specs.declared.block.Block.{Block}
use Rattle.rb_model.specs.declared.block.Field.{Field}
use Rattle.rb_model.specs.declared.block.Slot.{Slot}
use Rattle.rb_model.specs.declared.block.View.{View}
use Rattle.rb_model.specs.Ports.{is_pin}
use Rattle.word_groups.specs.declared.parts.Part.{Part}
use Rattle.block_effects.specs.Effects.{effects}
use Rattle.block_effects.specs.Notes.{Said}
use Rattle.block_effects.specs.declared.kinds.Effect.{Effect}
use Rattle.manual_words.specs.Names.{Sight, encoded_by, enumeration_item, field_item, pin_name}
use Rattle.manual_words.specs.Sentences.{points}
use Rattle.html_text.specs.Tags.{hex, paragraph}

-- What software does with it.
abbrev pub software : View → List ℕ
software v = cond v.reads (cond v.writes (cond v.once (codes "read, write once") (codes "read, write")) (codes "read")) (cond v.writes (cond v.once (codes "write once") (codes "write")) (codes "none"))

-- What hardware does with it: its output, and its input if it is a pin.

abbrev pub out_text : Sight → List ℕ → List ℕ
out_text s path = codes "reads " ++ pin_name s (codes "out$") path

abbrev pub in_pin_text : Sight → List ℕ → List ℕ
in_pin_text s path = codes "writes " ++ pin_name s (codes "in$") path

abbrev pub in_text : Sight → (pin : Bool) → List ℕ → List ℕ
in_text s pin path = cond pin (in_pin_text s path) (codes "writes")

abbrev pub behind_comma : Sight → (pin : Bool) → List ℕ → List ℕ
behind_comma s pin path = codes ", " ++ in_text s pin path

abbrev pub further : Sight → (writes pin : Bool) → List ℕ → List ℕ
further s writes pin path = cond writes (behind_comma s pin path) []

abbrev pub out_and : Sight → (writes pin : Bool) → List ℕ → List ℕ
out_and s writes pin path = out_text s path ++ further s writes pin path

abbrev pub in_alone : Sight → (writes pin : Bool) → List ℕ → List ℕ
in_alone s writes pin path = cond writes (in_text s pin path) (codes "none")

abbrev pub uses : Sight → (reads writes pin : Bool) → List ℕ → List ℕ
uses s reads writes pin path = cond reads (out_and s writes pin path) (in_alone s writes pin path)

abbrev pub alias_text : Sight → ℕ → List ℕ
alias_text s k = codes "of " ++ field_item s k []

abbrev pub hardware : Sight → View → Field → List ℕ
hardware s v f = cond v.alias (alias_text s v.field) (uses s f.hw_reads f.hw_writes (is_pin f.source) f.path)

abbrev pub access_cells : Sight → View → Field → List ℕ
access_cells s v f = codes "<td>" ++ software v ++ codes "</td><td>" ++ hardware s v f ++ codes "</td>"

-- What the source says.

abbrev pub unsaid : Said
unsaid = record { name = None; desc = None }

abbrev pub said_at : List Said → ℕ → Said
said_at notes k = get_or notes k unsaid

-- The cells of a row.

abbrev pub top_bit : (low bits : ℕ) → ℕ
top_bit low bits = low + bits - 1

abbrev pub span_cell : (low bits : ℕ) → List ℕ
span_cell low bits = codes "<td class=\"n\">[" ++ decimal (top_bit low bits) ++ codes ":" ++ decimal low ++ codes "]</td>"

abbrev pub field_cell : (mark name : List ℕ) → List ℕ
field_cell mark name = codes "<td class=\"f\" id=\"" ++ mark ++ codes "." ++ name ++ codes "\"><code>" ++ name ++ codes "</code></td>"

abbrev pub reset_text : Option ℕ → List ℕ
reset_text None = codes "none"
reset_text (Some n) = hex n

abbrev pub reset_cell : Option ℕ → List ℕ
reset_cell r = codes "<td class=\"n\">" ++ reset_text r ++ codes "</td>"

abbrev pub values_line : Sight → ℕ → List ℕ
values_line s k = codes "<p>Values: " ++ enumeration_item s k ++ codes "</p>\n"

-- the enumeration by which a field is encoded, if it is
abbrev pub values_text : Sight → Option ℕ → List ℕ
values_text s None = []
values_text s (Some k) = values_line s k

abbrev pub meaning_cell : List Said → Sight → ℕ → (encoded : Option ℕ) → (field view : List ℕ) → List Effect → List ℕ
meaning_cell notes s k encoded field view es = codes "<td class=\"m\">" ++ paragraph (said_at notes k).name ++ paragraph (said_at notes k).desc ++ values_text s encoded ++ points s field view es
    ++ codes "</td>"

abbrev pub row : List Said → Sight → (mark : List ℕ) → Part → View → Field → List Effect → List ℕ
row notes s mark p v f es = codes "<tr>" ++ span_cell p.low p.bits ++ field_cell mark p.name ++ access_cells s v f ++ reset_cell p.reset
    ++ meaning_cell notes s p.view (encoded_by s v.field) f.path v.path es ++ codes "</tr>\n"

-- a part of a sound block has a view and a field

abbrev pub viewed_row : Block → List Said → Sight → (mark : List ℕ) → Part → View → Option Field → List Effect → List ℕ
viewed_row b notes s mark p v None es = []
viewed_row b notes s mark p v (Some f) es = row notes s mark p v f es

abbrev pub row_of : Block → List Said → Sight → (mark : List ℕ) → Part → Option View → List Effect → List ℕ
row_of b notes s mark p None es = []
row_of b notes s mark p (Some v) es = viewed_row b notes s mark p v (slice_get b.fields v.field) es

abbrev pub part_row : Block → List Said → Sight → (mark : List ℕ) → Part → List Effect → List ℕ
part_row b notes s mark p es = row_of b notes s mark p (slice_get b.views p.view) es

abbrev pub row_at : Block → List Said → Sight → (mark : List ℕ) → List (List Effect) → ℕ × Part → List ℕ
row_at b notes s mark ess p = part_row b notes s mark p.1 (get_or ess p.0 [])

-- parts, and the effects of each
abbrev pub rows : Block → List Said → Sight → (mark : List ℕ) → List Part → List (List Effect) → List ℕ
rows b notes s mark ps ess = flat_map (row_at b notes s mark ess) (enumerate_from 0 ps)

-- The effects of a part.

abbrev pub slot_of : Part → Slot
slot_of p = record { view = p.view; low = p.low; from = p.from; bits = p.bits }

-- as every part of a sound block
abbrev pub fits : Part → Field → Bool
fits p f = nat_lt 0 p.bits && nat_le (p.from + p.bits) 64 && nat_le f.width 64

abbrev pub field_effects : Part → View → Option Field → List Effect
field_effects p v None = []
field_effects p v (Some f) = cond (fits p f) (effects (slot_of p) v f) []

abbrev pub view_effects : Block → Part → Option View → List Effect
view_effects b p None = []
view_effects b p (Some v) = field_effects p v (slice_get b.fields v.field)

abbrev pub part_effects : Block → Part → List Effect
part_effects b p = view_effects b p (slice_get b.views p.view)

abbrev pub all_effects : Block → List Part → List (List Effect)
all_effects b ps = map (part_effects b) ps

-- The section of a unit: its bits as lanes, and its fields (HTML Living Standard, 4.9; the layout is this project's).
use Rattle.std.specs.Prelude.{ℕ, suc, zero, ◌+◌, ◌-◌, ◌*◌, ◌==◌, Bool, true, false, ◌&&◌, cond, max, min, nat_le, nat_lt, List, [], ◌∷◌, ◌++◌, codes, decimal, flat_map, length, Option, None, Some, slice_get}
use Rattle.std.specs.List.{enumerate_from}
use Rattle.std.specs.Option.{option_map_or}
use Rattle.encodings.specs.Encodings.{Enumerations}
use Rattle.rb_model.specs.declared.block.Block.{Block}
use Rattle.word_groups.specs.declared.entries.Entry.{Entry}
use Rattle.word_groups.specs.declared.parts.Part.{Part}
use Rattle.word_groups.specs.Parts.{resval}
use Rattle.block_effects.specs.Notes.{AllSaid, Said}
use Rattle.manual_words.specs.Names.{Sight, relative}
use Rattle.manual_sections.specs.Rows.{rows, said_at}
use Rattle.html_text.specs.Tags.{hex, inline, padded, paragraph, title}
use Rattle.manual_sections.specs.declared.units.WordUnit.{WordUnit}

-- Lanes, from the highest bit down: what a read gives, and what a write reaches.

abbrev pub is_written : Block → Part → Bool
is_written b p = option_map_or (λ v. v.writes) (slice_get b.views p.view) false

abbrev pub in_lane : Block → (write : Bool) → Part → Bool
in_lane b write p = cond write (is_written b p) p.reads

abbrev pub covers : ℕ → Part → Bool
covers i p = nat_le p.low i && nat_lt i (p.low + p.bits)

abbrev pub is_at : Block → (write : Bool) → ℕ → Part → Bool
is_at b write i p = in_lane b write p && covers i p

-- the first part of a lane that has the bit
abbrev pub part_at : Block → (write : Bool) → ℕ → List Part → Option Part
part_at b write i [] = None
part_at b write i (p ∷ ps) = cond (is_at b write i p) (Some p) (part_at b write i ps)

-- among the bits before `end`, from `base` on: one more than the highest bit of a part, and its lowest
abbrev pub end_of : (end : ℕ) → Part → ℕ
end_of end p = min end (p.low + p.bits)

abbrev pub span_of : (base end : ℕ) → Part → ℕ
span_of base end p = end_of end p - max base p.low

abbrev pub name_cell : ℕ → List ℕ → List ℕ
name_cell span name = codes "<td colspan=\"" ++ decimal span ++ codes "\">" ++ name ++ codes "</td>"

-- one cell for a part, at the highest of its bits
abbrev pub part_cell : (base end i : ℕ) → Part → List ℕ
part_cell base end i p = cond (i == end_of end p - 1) (name_cell (span_of base end p) p.name) []

-- a bit of no field is read as 0
abbrev pub bare : (write : Bool) → List ℕ
bare write = cond write (codes "&ndash;") (codes "0")

abbrev pub bare_cell : (write : Bool) → List ℕ
bare_cell write = codes "<td class=\"z\">" ++ bare write ++ codes "</td>"

abbrev pub cell_of : (write : Bool) → (base end i : ℕ) → Option Part → List ℕ
cell_of write base end i None = bare_cell write
cell_of write base end i (Some p) = part_cell base end i p

abbrev pub cell : Block → (write : Bool) → (base end : ℕ) → List Part → ℕ → List ℕ
cell b write base end ps i = cell_of write base end i (part_at b write i ps)

-- so many bits from `base` on, downwards
abbrev pub down : (base count : ℕ) → List ℕ
down base zero = []
down base (suc n) = (base + n) ∷ down base n

abbrev pub lane_name : (write : Bool) → List ℕ
lane_name write = cond write (codes "Write") (codes "Read")

abbrev pub lane_head : (write : Bool) → List ℕ
lane_head write = codes "<tr><th scope=\"row\">" ++ lane_name write ++ codes "</th>"

abbrev pub lane : Block → (write : Bool) → (base end : ℕ) → List Part → List ℕ
lane b write base end ps = lane_head write ++ flat_map (cell b write base end ps) (down base (end - base)) ++ codes "</tr>\n"

abbrev pub bit_head : ℕ → List ℕ
bit_head i = codes "<th scope=\"col\">" ++ decimal i ++ codes "</th>"

abbrev pub bit_heads : (base end : ℕ) → List ℕ
bit_heads base end = codes "<tr><th scope=\"col\">Bit</th>" ++ flat_map bit_head (down base (end - base)) ++ codes "</tr>\n"

abbrev pub bits_caption : (base end : ℕ) → List ℕ
bits_caption base end = codes "<table class=\"bits\"><caption>Bits " ++ decimal (end - 1) ++ codes " to " ++ decimal base ++ codes "</caption>\n"

abbrev pub bits_table : Block → (base end : ℕ) → List Part → List ℕ
bits_table b base end ps = bits_caption base end ++ bit_heads base end ++ lane b false base end ps ++ lane b true base end ps ++ codes "</table>\n"

abbrev pub both_halves : Block → (width : ℕ) → List Part → List ℕ
both_halves b width ps = bits_table b 16 width ps ++ bits_table b 0 16 ps

-- in halves of 16 bits
abbrev pub halves : Block → (width : ℕ) → List Part → List ℕ
halves b width ps = cond (nat_lt 16 width) (both_halves b width ps) (bits_table b 0 width ps)

abbrev pub bits_of : Entry → ℕ
bits_of e = e.bytes * 8

abbrev pub diagram : Block → Entry → List ℕ
diagram b e = codes "<div class=\"wide\">\n" ++ halves b (bits_of e) e.parts ++ codes "</div>\n"

-- Places and names.

abbrev pub stride_text : ℕ × ℕ → List ℕ
stride_text k = codes " + " ++ hex k.1 ++ codes " &middot; i" ++ decimal k.0

abbrev pub strides_text : List ℕ → List ℕ
strides_text ks = flat_map stride_text (enumerate_from 0 ks)

abbrev pub offset_text : Entry → List ℕ
offset_text e = padded 8 e.address ++ strides_text e.strides

abbrev pub gap_number : (gap : List ℕ) → ℕ → List ℕ
gap_number gap k = gap ++ decimal k

-- the number of a word behind its register's first
abbrev pub numbered : (gap : List ℕ) → ℕ → List ℕ
numbered gap k = cond (k == 0) [] (gap_number gap k)

-- a register's path and the word in it
abbrev pub label : Sight → (path : List ℕ) → (number : ℕ) → List ℕ
label s path number = relative true s.named s.own path ++ numbered (codes ", word ") number

abbrev pub is_shared : Entry → Bool
is_shared e = nat_lt 0 (length e.lengths)

-- from where a unit's names are seen
abbrev pub sight : Block → Enumerations → (fields regs : List (List ℕ)) → WordUnit → Sight
sight b es fields regs u = record { block = b; own = u.pieces; named = is_shared u.entry; fields = fields; regs = regs; encodings = es }

-- Sections.

abbrev pub heading : Sight → (mark path : List ℕ) → (number : ℕ) → List ℕ
heading s mark path number = codes "<section>\n<h3 id=\"" ++ mark ++ codes "\"><code>" ++ label s path number ++ codes "</code></h3>\n"

abbrev pub place : Entry → List ℕ
place e = codes "<p class=\"at\">Offset <code>" ++ offset_text e ++ codes "</code>, " ++ decimal (bits_of e) ++ codes " bits</p>\n"

abbrev pub fields_head : List ℕ
fields_head = codes "<div class=\"wide\">\n<table><caption>Fields</caption>\n<tr><th scope=\"col\">Bits</th><th scope=\"col\">Field</th><th scope=\"col\">Software</th><th scope=\"col\">Hardware</th><th scope=\"col\">Reset</th><th scope=\"col\">Meaning</th></tr>\n"

abbrev pub fields_table : Block → List Said → Sight → WordUnit → List ℕ
fields_table b views s u = fields_head ++ rows b views s u.mark u.entry.parts u.effects ++ codes "</table>\n</div>\n"

abbrev pub seen_section : Block → AllSaid → Sight → WordUnit → List ℕ
seen_section b n s u = heading s u.mark u.entry.path u.entry.number ++ title (said_at n.regs u.entry.reg).name ++ place u.entry ++ paragraph (said_at n.regs u.entry.reg).desc
    ++ diagram b u.entry ++ fields_table b n.views s u ++ codes "</section>\n"

abbrev pub section : Block → AllSaid → Enumerations → (fields regs : List (List ℕ)) → WordUnit → List ℕ
section b n es fields regs u = seen_section b n (sight b es fields regs u) u

-- Addresses.

abbrev pub times : ℕ → List ℕ
times k = codes " &times; " ++ decimal k

abbrev pub many_elements : ℕ → List ℕ → List ℕ
many_elements k ks = decimal k ++ flat_map times ks

abbrev pub elements : List ℕ → List ℕ
elements [] = codes "1"
elements (k ∷ ks) = many_elements k ks

abbrev pub word_reset : (places : ℕ) → Option ℕ → List ℕ
word_reset places None = codes "&ndash;"
word_reset places (Some v) = padded places v

abbrev pub place_cells : Entry → List ℕ
place_cells e = codes "<tr><td class=\"n\">" ++ offset_text e ++ codes "</td><td class=\"n\">" ++ decimal (bits_of e) ++ codes "</td>"

abbrev pub label_cell : Sight → (mark path : List ℕ) → (number : ℕ) → List ℕ
label_cell s mark path number = codes "<td class=\"n\"><a href=\"#" ++ mark ++ codes "\">" ++ label s path number ++ codes "</a></td>"

abbrev pub about_cells : List Said → Entry → List ℕ
about_cells regs e = codes "<td class=\"n\">" ++ elements e.lengths ++ codes "</td><td class=\"n\">" ++ word_reset (e.bytes * 2) (resval e.parts) ++ codes "</td><td class=\"text\">"
    ++ inline (said_at regs e.reg).name ++ codes "</td></tr>\n"

abbrev pub seen_address : List Said → Sight → WordUnit → List ℕ
seen_address regs s u = place_cells u.entry ++ label_cell s u.mark u.entry.path u.entry.number ++ about_cells regs u.entry

abbrev pub address_row : Block → List Said → Enumerations → (fields marks : List (List ℕ)) → WordUnit → List ℕ
address_row b regs es fields marks u = seen_address regs (sight b es fields marks u) u

abbrev pub addresses_head : List ℕ
addresses_head = codes "<h2>Addresses</h2>\n<p>Offsets count bytes. <code>i0</code>, <code>i1</code>, .. are indices, from 0 on.</p>\n<div class=\"wide\">\n<table>\n<tr><th scope=\"col\">Offset</th><th scope=\"col\">Bits</th><th scope=\"col\">Register</th><th scope=\"col\">Elements</th><th scope=\"col\">Reset</th><th scope=\"col\">Name</th></tr>\n"

abbrev pub addresses : Block → List Said → Enumerations → (fields marks : List (List ℕ)) → List WordUnit → List ℕ
addresses b regs es fields marks us = addresses_head ++ flat_map (address_row b regs es fields marks) us ++ codes "</table>\n</div>\n"

abbrev pub sections : Block → AllSaid → Enumerations → (fields regs : List (List ℕ)) → List WordUnit → List ℕ
sections b n es fields regs us = codes "<h2>Registers</h2>\n" ++ flat_map (section b n es fields regs) us

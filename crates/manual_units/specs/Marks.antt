-- The marks of places in the page. No two units have one: names have neither `:` nor `.`.
use Rattle.std.specs.Prelude.{ℕ, ◌==◌, ◌&&◌, cond, nat_lt, List, [], ◌++◌, codes, fold, get_or, length, map, Option, None, Some, slice_get, slice_set}
use Rattle.std.specs.List.{range_with_len}
use Rattle.rb_model.specs.declared.block.Block.{Block}
use Rattle.rb_model.specs.declared.block.View.{View}
use Rattle.word_groups.specs.declared.entries.Entry.{Entry}
use Rattle.word_groups.specs.declared.parts.Part.{Part}
use Rattle.word_groups.specs.Paths.{names_of}
use Rattle.manual_sections.specs.Sections.{is_shared, numbered}
use Rattle.manual_units.specs.declared.lots.Lot.{Lot}

-- an entry's path, without indices where it stands for an array
abbrev pub marked_path : Entry → List ℕ
marked_path e = cond (is_shared e) (names_of e.path) e.path

-- an entry's mark: its path, and the number of a word behind its register's first
abbrev pub mark : Entry → List ℕ
mark e = marked_path e ++ numbered (codes ":") e.number

abbrev pub field_mark : Entry → List ℕ → List ℕ
field_mark e name = mark e ++ codes "." ++ name

-- the entry that a word is shown as
abbrev pub shown_as : Option Entry → Entry → Entry
shown_as None e = e
shown_as (Some a) e = a

-- the mark of the place k, unless it has one
abbrev pub set_mark : List (List ℕ) → ℕ → List ℕ → List (List ℕ)
set_mark marks k m = cond (nat_lt k (length marks) && length (get_or marks k []) == 0) (slice_set marks k m) marks

abbrev pub none_of : ℕ → List (List ℕ)
none_of n = map (λ i. []) (range_with_len 0 n)

-- Marks of fields, by their numbers: that of a field's own view in the first word that has bits of it.

abbrev pub mark_field : Entry → List (List ℕ) → Part → Option View → List (List ℕ)
mark_field shown marks p None = marks
mark_field shown marks p (Some v) = cond v.alias marks (set_mark marks v.field (field_mark shown p.name))

abbrev pub mark_part : Block → Entry → List (List ℕ) → Part → List (List ℕ)
mark_part b shown marks p = mark_field shown marks p (slice_get b.views p.view)

abbrev pub mark_fields : Block → Option Entry → List (List ℕ) → Entry → List (List ℕ)
mark_fields b whole marks e = fold (mark_part b (shown_as whole e)) marks e.parts

abbrev pub mark_lot_fields : Block → List (List ℕ) → Lot → List (List ℕ)
mark_lot_fields b marks l = fold (mark_fields b l.whole) marks l.words

abbrev pub field_marks : Block → List Lot → List (List ℕ)
field_marks b ls = fold (mark_lot_fields b) (none_of (length b.fields)) ls

-- Marks of registers, by their numbers: that of the first word.

abbrev pub mark_reg : Option Entry → List (List ℕ) → Entry → List (List ℕ)
mark_reg whole marks e = set_mark marks e.reg (mark (shown_as whole e))

abbrev pub mark_lot_regs : List (List ℕ) → Lot → List (List ℕ)
mark_lot_regs marks l = fold (mark_reg l.whole) marks l.words

abbrev pub reg_marks : Block → List Lot → List (List ℕ)
reg_marks b ls = fold mark_lot_regs (none_of (length b.regs)) ls

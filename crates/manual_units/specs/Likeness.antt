-- Which elements of an array the page says the same of.
use Rattle.std.specs.Prelude.{ℕ, Bool, true, false, ◌&&◌, List, [], ◌∷◌, bytes_eq, Option, None, Some}
use Rattle.std.specs.List.{list_all}
use Rattle.encodings.specs.Encodings.{Enumerations}
use Rattle.rb_model.specs.declared.block.Block.{Block}
use Rattle.word_groups.specs.declared.entries.Entry.{Entry}
use Rattle.word_groups.specs.declared.parts.Part.{Part}
use Rattle.word_groups.specs.Paths.{names_and_indices}
use Rattle.block_effects.specs.Notes.{AllSaid, Said}
use Rattle.manual_words.specs.Names.{Sight}
use Rattle.manual_sections.specs.Rows.{all_effects, rows, said_at}

abbrev pub same_text : (a b : Option (List ℕ)) → Bool
same_text None None = true
same_text None (Some b) = false
same_text (Some a) None = false
same_text (Some a) (Some b) = bytes_eq a b

abbrev pub same_said : Said → Said → Bool
same_said a b = same_text a.name b.name && same_text a.desc b.desc

-- the source says the same of both views
abbrev pub same_note : List Said → ℕ → ℕ → Bool
same_note notes a b = same_said (said_at notes a) (said_at notes b)

abbrev pub same_notes : List Said → List Part → List Part → Bool
same_notes views [] [] = true
same_notes views [] (q ∷ qs) = false
same_notes views (p ∷ ps) [] = false
same_notes views (p ∷ ps) (q ∷ qs) = same_note views p.view q.view && same_notes views ps qs

-- an element's own indices are written by their names, and nothing is linked
abbrev pub plain_sight : Block → Enumerations → Entry → Sight
plain_sight b es e = record { block = b; own = names_and_indices e.path; named = true; fields = []; regs = []; encodings = es }

-- its fields as the page shows them, without marks and texts of the source
abbrev pub bare_rows : Block → Enumerations → Entry → List ℕ
bare_rows b es e = rows b [] (plain_sight b es e) [] e.parts (all_effects b e.parts)

-- the source says the same of both, and of the fields of both
abbrev pub noted_alike : AllSaid → Entry → Entry → Bool
noted_alike n first e = same_note n.regs first.reg e.reg && same_notes n.views first.parts e.parts

abbrev pub is_like : Block → AllSaid → Enumerations → Entry → Entry → Bool
is_like b n es first e = noted_alike n first e && bytes_eq (bare_rows b es first) (bare_rows b es e)

abbrev pub are_like : Block → AllSaid → Enumerations → List Entry → Bool
are_like b n es [] = true
are_like b n es (e ∷ more) = list_all (is_like b n es e) more

-- The section of enumerations: a table of each, to which the fields that are encoded by it link.
use Rattle.std.specs.Prelude.{ℕ, Bool, cond, nat_lt, List, [], ◌++◌, codes, decimal, flat_map, get_or, length}
use Rattle.std.specs.List.{enumerate_from, list_any}
use Rattle.block_effects.specs.Notes.{Said, is_said}
use Rattle.encodings.specs.Encodings.{Enumeration}
use Rattle.html_text.specs.Tags.{code, hex}
use Rattle.manual_sections.specs.Rows.{said_at}
use Rattle.manual_words.specs.Names.{Sight, field_item}
use Rattle.html_manual.specs.Groups.{texts}

abbrev pub value_cell : ℕ → List ℕ
value_cell value = codes "<tr><td class=\"n\">" ++ hex value ++ codes "</td><td class=\"f\">"

-- what is said of an entry, where something is said of one of them
abbrev pub text_cell : (told : Bool) → Said → List ℕ
text_cell told said = cond told (codes "</td><td class=\"m\">" ++ texts said) []

abbrev pub entry_row : (told : Bool) → List Said → ℕ × (List ℕ × ℕ) → List ℕ
entry_row told notes x = value_cell x.1.1 ++ code x.1.0 ++ text_cell told (said_at notes x.0) ++ codes "</td></tr>\n"

abbrev pub meaning_head : (told : Bool) → List ℕ
meaning_head told = cond told (codes "<th scope=\"col\">Meaning</th>") []

abbrev pub values_head : (told : Bool) → List ℕ
values_head told = codes "<div class=\"wide\">\n<table><caption>Values</caption>\n<tr><th scope=\"col\">Value</th><th scope=\"col\">Entry</th>" ++ meaning_head told ++ codes "</tr>\n"

abbrev pub told_table : (told : Bool) → List Said → List (List ℕ × ℕ) → List ℕ
told_table told notes xs = values_head told ++ flat_map (entry_row told notes) (enumerate_from 0 xs) ++ codes "</table>\n</div>\n"

abbrev pub values_table : List Said → List (List ℕ × ℕ) → List ℕ
values_table notes xs = told_table (list_any is_said notes) notes xs

-- its mark has two colons, as that of no word has
abbrev pub heading : ℕ → (name : List ℕ) → List ℕ
heading k name = codes "<section>\n<h3 id=\"enum::" ++ decimal k ++ codes "\">" ++ code name ++ codes "</h3>\n"

-- the first field that is encoded by it
abbrev pub users_line : Sight → ℕ → List ℕ
users_line s field = codes "<p class=\"at\">Values of " ++ field_item s field [] ++ codes " and of each field that links here</p>\n"

-- with what is said of the entries of each
abbrev pub enumeration_section : Sight → List (List Said) → ℕ × Enumeration → List ℕ
enumeration_section s notes e = heading e.0 e.1.name ++ users_line s e.1.field ++ values_table (get_or notes e.0 []) e.1.entries ++ codes "</section>\n"

abbrev pub enumeration_sections : Sight → List (List Said) → List Enumeration → List ℕ
enumeration_sections s notes es = codes "<h2>Enumerations</h2>\n" ++ flat_map (enumeration_section s notes) (enumerate_from 0 es)

-- nothing where there is none
abbrev pub enumerations : Sight → List (List Said) → List ℕ
enumerations s notes = cond (nat_lt 0 (length s.encodings.list)) (enumeration_sections s notes s.encodings.list) []

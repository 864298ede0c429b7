-- Elements (HTML Living Standard, 13.1.2).
use Rattle.std.specs.Prelude.{ℕ, ◌-◌, false, List, [], ◌∷◌, ◌++◌, codes, decimal, length, min, take, Option, None, Some}
use Rattle.std.specs.Fmt.{digits}
use Rattle.html_text.specs.Escaped.{escaped}

abbrev pub code : List ℕ → List ℕ
code t = codes "<code>" ++ t ++ codes "</code>"

abbrev pub number_cell : List ℕ → List ℕ
number_cell t = codes "<td class=\"n\">" ++ t ++ codes "</td>"

-- A reference to what has this mark, if that is known, stands between these.

abbrev pub link_begin : (mark : List ℕ) → List ℕ
link_begin [] = []
link_begin (b ∷ bs) = codes "<a href=\"#" ++ (b ∷ bs) ++ codes "\">"

abbrev pub link_end : (mark : List ℕ) → List ℕ
link_end [] = []
link_end (b ∷ bs) = codes "</a>"

abbrev pub hex : ℕ → List ℕ
hex n = codes "0x" ++ digits 16 false n

-- with so many digits at least, but no more than eight zeros
abbrev pub padded : ℕ → ℕ → List ℕ
padded places n = codes "0x" ++ take (min (places - length (digits 16 false n)) 8) (codes "00000000") ++ digits 16 false n

-- a text of the source as a paragraph, if there is one
abbrev pub paragraph : Option (List ℕ) → List ℕ
paragraph None = []
paragraph (Some t) = codes "<p class=\"text\">" ++ escaped t ++ codes "</p>\n"

-- the same as a heading's second line
abbrev pub title : Option (List ℕ) → List ℕ
title None = []
title (Some t) = codes "<p class=\"title text\">" ++ escaped t ++ codes "</p>\n"

abbrev pub inline : Option (List ℕ) → List ℕ
inline None = []
inline (Some t) = escaped t

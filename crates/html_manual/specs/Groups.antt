-- The table of groups: what the source says of address maps and register files.
use Rattle.std.specs.Prelude.{ℕ, true, List, [], ◌∷◌, ◌++◌, codes, flat_map}
use Rattle.block_effects.specs.Notes.{Said, SaidGroup}
use Rattle.html_text.specs.Tags.{paragraph}
use Rattle.manual_words.specs.Names.{Sight, relative}

abbrev pub path_cell : Sight → (path : List ℕ) → List ℕ
path_cell s path = codes "<tr><td class=\"f\"><code>" ++ relative true s.named s.own path ++ codes "</code></td><td class=\"m\">"

abbrev pub texts : Said → List ℕ
texts said = paragraph said.name ++ paragraph said.desc

abbrev pub group_row : Sight → SaidGroup → List ℕ
group_row s g = path_cell s g.path ++ texts g.said ++ codes "</td></tr>\n"

abbrev pub groups_head : List ℕ
groups_head = codes "<h2>Groups</h2>\n<p>Address maps and register files with a text. Of an array's elements with the same texts the first is listed.</p>\n<div class=\"wide\">\n<table>\n<tr><th scope=\"col\">Group</th><th scope=\"col\">Meaning</th></tr>\n"

abbrev pub groups_table : Sight → List SaidGroup → List ℕ
groups_table s gs = groups_head ++ flat_map (group_row s) gs ++ codes "</table>\n</div>\n"

-- none without a group
abbrev pub groups : Sight → List SaidGroup → List ℕ
groups s [] = []
groups s (g ∷ gs) = groups_table s (g ∷ gs)

-- The header of a printed module: its name, and one port a line.
use Rattle.std.specs.Prelude.{ℕ, ◌-◌, ◌==◌, if◌then◌else◌, List, [], ◌∷◌, ◌++◌, codes, decimal}
use Rattle.rb_base.specs.declared.ports.Port.{Port}
use Rattle.v_design.specs.Tree.{dir_word}

abbrev pub range_text : ℕ → List ℕ
range_text w = if w == 1 then [] else codes "[" ++ (decimal (w - 1) ++ codes ":0] ")

abbrev pub port_text : Port → List ℕ
port_text p = codes "  " ++ (dir_word p.dir ++ (codes " " ++ (range_text p.width ++ p.name)))

abbrev pub ports_text : List Port → List ℕ
ports_text [] = []
ports_text (p ∷ []) = port_text p ++ codes "\n"
ports_text (p ∷ q ∷ ps) = port_text p ++ (codes ",\n" ++ ports_text (q ∷ ps))

abbrev pub header : (name : List ℕ) → List Port → List ℕ
header name ps = codes "module " ++ (name ++ (codes " (\n" ++ (ports_text ps ++ codes ");\n")))

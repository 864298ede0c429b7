-- A run as text (this project's format).
use Rattle.std.specs.List.{flat_map}
use Rattle.std.specs.Fmt.{digits}
use Rattle.std.specs.Prelude.{ℕ, false, List, [], ◌∷◌, ◌++◌, codes, map}
use Rattle.rb_base.specs.declared.ports.Pin.{Pin}

-- cells with commas between
abbrev pub joined : List (List ℕ) → List ℕ
joined [] = []
joined (c ∷ cs) = c ++ flat_map (λ d. codes "," ++ d) cs

-- cells as a line
abbrev pub line : List (List ℕ) → List ℕ
line cells = joined cells ++ 10 ∷ []

-- a number in hexadecimal digits
abbrev pub cell : ℕ → List ℕ
cell x = codes "0x" ++ digits 16 false x

-- the names of the pins as a line, and then the numbers of each vector as one
abbrev pub printed_run : List Pin → List (List ℕ) → List ℕ
printed_run pins rows = line (map (λ p. p.name) pins) ++ flat_map (λ row. line (map cell row)) rows

-- The rules of this project's profile: the code, the phrase and the phase of each, in the order of the table.
use Rattle.std.specs.Prelude.{ℕ, List, codes}
use Rattle.rdl_base.specs.declared.rule.Rule.{Rule}
use Rattle.rdl_base.specs.declared.rule.Rule.TheVariants.{L1, L2, L3, L4, L5, L6, S1, S2, O1, O2, O3, O4, O5, O6, O7, O8, O9, V1, V2, V3, V4, E1, E2, E3, E4, E5, E6, E7, E8, E9, E10, E11, E12, E13, E14, P1, P2, P3, P4, P5, P6, P7, P8, P9, P10, P11, A1, A2, A3, A4, A5, A6, B1, B2, R1, R2, F1, F2, F3, F4, F5, F6, F7, F8, F9, F10, F11, F12, F13, F14, F15, R3, R4, R5, R6, R7, R8, X1}

-- a row of the table, with its number in the table, from 0
pub record Row : Type 0 where
  pub number : ℕ
  pub code : List ℕ
  pub phrase : List ℕ
  pub phase : ℕ

-- the row with these parts
abbrev pub entry : ℕ → (code phrase : List ℕ) → ℕ → Row
entry number code phrase phase = record { number = number; code = code; phrase = phrase; phase = phase }

-- the table
abbrev pub row : Rule → Row
row L1 = entry 0 (codes "L1") (codes "no token here") 1
row L2 = entry 1 (codes "L2") (codes "comment not closed") 1
row L3 = entry 2 (codes "L3") (codes "string not closed") 1
row L4 = entry 3 (codes "L4") (codes "bad number") 1
row L5 = entry 4 (codes "L5") (codes "Perl code") 1
row L6 = entry 5 (codes "L6") (codes "preprocessor directive") 1
row S1 = entry 6 (codes "S1") (codes "syntax") 2
row S2 = entry 7 (codes "S2") (codes "nested too deeply") 2
row O1 = entry 8 (codes "O1") (codes "constraint") 2
row O2 = entry 9 (codes "O2") (codes "memory") 2
row O3 = entry 10 (codes "O3") (codes "external component") 2
row O4 = entry 11 (codes "O4") (codes "struct") 2
row O5 = entry 12 (codes "O5") (codes "user property") 2
row O6 = entry 13 (codes "O6") (codes "user access") 2
row O7 = entry 14 (codes "O7") (codes "bitwise not") 2
row O8 = entry 15 (codes "O8") (codes "enumeration type parameter") 2
row O9 = entry 16 (codes "O9") (codes "cast") 2
row V1 = entry 17 (codes "V1") (codes "unknown name") 3
row V2 = entry 18 (codes "V2") (codes "wrong type") 3
row V3 = entry 19 (codes "V3") (codes "out of range") 3
row V4 = entry 20 (codes "V4") (codes "division by zero") 3
row E1 = entry 21 (codes "E1") (codes "no top address map") 3
row E2 = entry 22 (codes "E2") (codes "name defined twice") 3
row E3 = entry 23 (codes "E3") (codes "type not defined") 3
row E4 = entry 24 (codes "E4") (codes "instance name used twice") 3
row E5 = entry 25 (codes "E5") (codes "component not allowed here") 3
row E6 = entry 26 (codes "E6") (codes "bad parameter") 3
row E7 = entry 27 (codes "E7") (codes "too many parameters") 3
row E8 = entry 28 (codes "E8") (codes "path too deep") 3
row E9 = entry 29 (codes "E9") (codes "too many nodes") 3
row E10 = entry 30 (codes "E10") (codes "bad array") 3
row E11 = entry 31 (codes "E11") (codes "path too long") 3
row E12 = entry 32 (codes "E12") (codes "bad instance form") 3
row E13 = entry 33 (codes "E13") (codes "bad alias") 3
row E14 = entry 34 (codes "E14") (codes "bad enum") 3
row P1 = entry 35 (codes "P1") (codes "unknown property") 4
row P2 = entry 36 (codes "P2") (codes "property not supported") 4
row P3 = entry 37 (codes "P3") (codes "property not legal here") 4
row P4 = entry 38 (codes "P4") (codes "property assigned twice") 4
row P5 = entry 39 (codes "P5") (codes "exclusive properties") 4
row P6 = entry 40 (codes "P6") (codes "bad property value") 4
row P7 = entry 41 (codes "P7") (codes "no such instance") 4
row P8 = entry 42 (codes "P8") (codes "no such enum") 4
row P9 = entry 43 (codes "P9") (codes "bad regwidth") 4
row P10 = entry 44 (codes "P10") (codes "bad accesswidth") 4
row P11 = entry 45 (codes "P11") (codes "bad width") 4
row A1 = entry 46 (codes "A1") (codes "stride too small") 5
row A2 = entry 47 (codes "A2") (codes "alignment of zero") 5
row A3 = entry 48 (codes "A3") (codes "misaligned register") 5
row A4 = entry 49 (codes "A4") (codes "address too large") 5
row A5 = entry 50 (codes "A5") (codes "registers overlap") 5
row A6 = entry 51 (codes "A6") (codes "too many registers") 5
row B1 = entry 52 (codes "B1") (codes "field outside register") 5
row B2 = entry 53 (codes "B2") (codes "fields overlap") 5
row R1 = entry 54 (codes "R1") (codes "no such reference") 5
row R2 = entry 55 (codes "R2") (codes "not referable") 5
row F1 = entry 56 (codes "F1") (codes "access without meaning") 6
row F2 = entry 57 (codes "F2") (codes "field spans words") 6
row F3 = entry 58 (codes "F3") (codes "onwrite without write") 6
row F4 = entry 59 (codes "F4") (codes "onread without read") 6
row F5 = entry 60 (codes "F5") (codes "no hardware write") 6
row F6 = entry 61 (codes "F6") (codes "not a counter") 6
row F7 = entry 62 (codes "F7") (codes "kinds exclude") 6
row F8 = entry 63 (codes "F8") (codes "not an interrupt") 6
row F9 = entry 64 (codes "F9") (codes "bad singlepulse") 6
row F10 = entry 65 (codes "F10") (codes "number too wide") 6
row F11 = entry 66 (codes "F11") (codes "written once without reset") 6
row F12 = entry 67 (codes "F12") (codes "alias differs") 6
row F13 = entry 68 (codes "F13") (codes "encode too wide") 6
row F14 = entry 69 (codes "F14") (codes "empty component") 6
row F15 = entry 70 (codes "F15") (codes "too many fields") 6
row R3 = entry 71 (codes "R3") (codes "reference width") 6
row R4 = entry 72 (codes "R4") (codes "no such item") 6
row R5 = entry 73 (codes "R5") (codes "reference into an alias") 6
row R6 = entry 74 (codes "R6") (codes "bad reset signal") 6
row R7 = entry 75 (codes "R7") (codes "references run in a circle") 6
row R8 = entry 76 (codes "R8") (codes "two reset signals") 6
row X1 = entry 77 (codes "X1") (codes "access width not 32") 7

-- A run as the text of a dump (IEEE 1364-2005, clause 18.2; the layout is this project's).
use Rattle.std.specs.Fmt.{decimal, digits_onto}
use Rattle.std.specs.List.{enumerate_from, flat_map, join_with_byte}
use Rattle.std.specs.Prelude.{ℕ, zero, suc, ◌+◌, ◌-◌, ◌*◌, ◌/◌, ◌%◌, Bool, false, ◌==◌, nat_lt, if◌then◌else◌, Option, Some, None, List, [], ◌∷◌, ◌++◌, codes, map}
use Rattle.rb_base.specs.declared.ports.Pin.{Pin}

-- the lines of a text: each is words
abbrev pub Line : Type 0
Line = List (List ℕ)

-- words with a space between, and a line feed
abbrev pub line_text : Line → List ℕ
line_text words = join_with_byte 32 words ++ 10 ∷ []

abbrev pub lines_text : List Line → List ℕ
lines_text lines = flat_map line_text lines

abbrev pub end : List ℕ
end = codes "$end"

-- the last digits of k in base 94, the least first, so many at most: digit d is the byte 33 + d
abbrev pub code_within : ℕ → ℕ → List ℕ
code_within zero k = []
code_within (suc n) k = (33 + k % 94) ∷ (if nat_lt k 94 then [] else code_within n (k / 94))

-- the code of the pin of a number: the digits of the number in base 94, the least first
unfoldable pub code : ℕ → List ℕ
code k = code_within (suc k) k

-- a number below 2 ^ 128 in binary digits, without leading zeros
unfoldable pub binary : ℕ → List ℕ
binary n = digits_onto 128 2 false n []

-- [M:0] for a pin of more than one bit, where M is its highest one
abbrev pub range_words : ℕ → Line
range_words width = if nat_lt 1 width then (codes "[" ++ (decimal (width - 1) ++ codes ":0]")) ∷ [] else []

-- the declaration of the pin of a number (clause 18.2.3)
abbrev pub var_line : ℕ × Pin → Line
var_line p = codes "$var" ∷ codes "wire" ∷ decimal p.1.width ∷ code p.0 ∷ p.1.name ∷ (range_words p.1.width ++ end ∷ [])

-- all before the first time (clause 18.2.3)
abbrev pub head_lines : (name : List ℕ) → List Pin → List Line
head_lines name ps =
    (codes "$timescale" ∷ codes "1ns" ∷ end ∷ [])
    ∷ (codes "$scope" ∷ codes "module" ∷ name ∷ end ∷ [])
    ∷ (map var_line (enumerate_from 0 ps)
    ++ (codes "$upscope" ∷ end ∷ []) ∷ (codes "$enddefinitions" ∷ end ∷ []) ∷ [])

-- the pin of a number has a value (clause 18.2.2)
abbrev pub change_line : (number width value : ℕ) → Line
change_line number width value = if width == 1 then ((48 + value) ∷ code number) ∷ [] else (codes "b" ++ binary value) ∷ code number ∷ []

-- the values of all pins, numbered from k
abbrev pub all_lines : ℕ → List Pin → List ℕ → List Line
all_lines k (p ∷ ps) (x ∷ xs) = change_line k p.width x ∷ all_lines (k + 1) ps xs
all_lines k _ _ = []

-- the values of the pins that changed
abbrev pub changed_lines : ℕ → List Pin → (before now : List ℕ) → List Line
changed_lines k (p ∷ ps) (x ∷ xs) (y ∷ ys) = (if x == y then [] else change_line k p.width y ∷ []) ++ changed_lines (k + 1) ps xs ys
changed_lines k _ _ _ = []

-- a time (clause 18.2.1): ten for each edge
abbrev pub time_line : ℕ → Line
time_line at = (codes "#" ++ decimal (10 * at)) ∷ []

-- the values at an edge: all of them at the first, in $dumpvars (clause 18.1.2), and later those that changed
abbrev pub vector_lines : ℕ → List Pin → Option (List ℕ) → List ℕ → List Line
vector_lines at ps None now = time_line at ∷ (codes "$dumpvars" ∷ []) ∷ (all_lines 0 ps now ++ (end ∷ []) ∷ [])
vector_lines at ps (Some before) now = time_line at ∷ changed_lines 0 ps before now

-- the edges from one on, behind the values of the one before
abbrev pub row_lines : ℕ → List Pin → Option (List ℕ) → List (List ℕ) → List Line
row_lines at ps before [] = []
row_lines at ps before (row ∷ rows) = vector_lines at ps before row ++ row_lines (at + 1) ps (Some row) rows

abbrev pub head_text : (name : List ℕ) → List Pin → List ℕ
head_text name ps = lines_text (head_lines name ps)

abbrev pub vector_text : ℕ → List Pin → Option (List ℕ) → List ℕ → List ℕ
vector_text at ps before now = lines_text (vector_lines at ps before now)

-- the dump of these rows
abbrev pub dump_text : (name : List ℕ) → List Pin → List (List ℕ) → List ℕ
dump_text name ps rows = head_text name ps ++ lines_text (row_lines 0 ps None rows)

-- The source of a number of registers, and the line that sums it up: this project's own, to measure with.
use Rattle.std.specs.Prelude.{ℕ, ◌+◌, ◌*◌, ◌%◌, List, ◌++◌, codes, decimal, flat_map}
use Rattle.std.specs.List.{range_with_len}

abbrev pub first_line : (count : ℕ) → List ℕ
first_line count = codes "addrmap g" ++ decimal count ++ codes " {\n"

-- a register of a field that software writes, one that hardware writes, and a counter; the first field's reset value is the number
-- modulo 256
abbrev pub register_line : (number : ℕ) → List ℕ
register_line number =
    codes "  reg { field { sw = rw; hw = r; } a[8] = " ++ decimal (number % 256) ++ codes "; field { sw = r; hw = w; } b[8]; field { sw = r; hw = r; counter; } c[8] = 0; } r" ++ decimal number ++ codes ";\n"

-- those of the numbers below this one
abbrev pub register_lines : ℕ → List ℕ
register_lines count = flat_map register_line (range_with_len 0 count)

abbrev pub last_line : List ℕ
last_line = codes "};\n"

abbrev pub source_of : (count : ℕ) → List ℕ
source_of count = first_line count ++ register_lines count ++ last_line

-- Each register has three fields, and four ports beside the ten of the bus.
abbrev pub summary_of : (count bytes : ℕ) → List ℕ
summary_of count bytes = codes "registers " ++ decimal count ++ codes " fields " ++ decimal (3 * count) ++ codes " ports " ++ decimal (10 + 4 * count) ++ codes " bytes " ++ decimal bytes ++ codes "\n"

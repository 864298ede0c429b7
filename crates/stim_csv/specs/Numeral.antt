-- The numbers of cells (this project's rules).
use Rattle.std.specs.Prelude.{ℕ, ◌^◌, Bool, nat_lt, nat_eq, ◌&&◌, if◌then◌else◌, Option, Some, None, List, length, drop, codes}
use Rattle.std.specs.List.{list_all, starts_with}
use Rattle.std.specs.Char.{is_digit}
use Rattle.std.specs.Str.Parse.{digits_value}
use Rattle.stim_csv.specs.declared.numeral.Cell.{Cell}
use Rattle.stim_csv.specs.declared.numeral.Cell.TheVariants.{Bad, Number, Above}

-- the number that one or more digits of a radix write
abbrev pub numeral_value : ℕ → List ℕ → Option ℕ
numeral_value radix text =
    if nat_lt 0 (length text) && list_all (λ b. is_digit b radix) text then Some (digits_value radix text) else None

-- the number of a cell: hexadecimal digits of either case after 0x, or decimal digits
unfoldable pub cell_value : List ℕ → Option ℕ
cell_value text = if starts_with nat_eq text (codes "0x") then numeral_value 16 (drop 2 text) else numeral_value 10 text

-- a number fits so many bits, and no more than 128
abbrev pub fits : ℕ → ℕ → Bool
fits width n = nat_lt n (2 ^ 128) && nat_lt n (2 ^ width)

-- a number below 2 ^ 128
abbrev pub capped : ℕ → Option ℕ
capped n = if nat_lt n (2 ^ 128) then Some n else None

-- a cell as the program holds it
abbrev pub cell_of : Option ℕ → Cell
cell_of None = Bad
cell_of (Some n) = if nat_lt n (2 ^ 128) then Number n else Above

-- The value of one bit.
use Rattle.std.specs.List.{list_all}
use Rattle.std.specs.Str.Parse.{digits_value}
use Rattle.std.specs.Prelude.{ℕ, if◌then◌else◌, Option, Some, None, List, take}
use Rattle.vcd_syntax.specs.Faulty.{is_known_bit}

-- of the bit that a word begins with, where that is 0 or 1
abbrev pub bit_value : List ℕ → Option ℕ
bit_value word = if list_all is_known_bit (take 1 word) then Some (digits_value 2 (take 1 word)) else None

-- The lines of a block's address table.
use Rattle.std.specs.Prelude.{ℕ, ◌-◌, ◌==◌, Bool, true, false, cond, List, [], ◌∷◌, ◌++◌, Option, None, Some, codes, flat_map, length, slice_get, take}
use Rattle.std.specs.Char.{is_ascii_digit}
use Rattle.std.specs.Fmt.{decimal, digits}
use Rattle.std.specs.List.{enumerate_from}
use Rattle.std.specs.Option.{option_map_or}
use Rattle.rb_model.specs.declared.block.Block.{Block}
use Rattle.rb_model.specs.declared.block.Word.{Word}

-- Paths as a reader writes them: `uart[2].ctrl` for `uart$2$ctrl`, whose names never begin with a digit.

abbrev pub begins_index : List ℕ → Bool
begins_index [] = false
begins_index (b ∷ bs) = is_ascii_digit b

abbrev pub closing : Bool → List ℕ
closing true = codes "]"
closing false = []

abbrev pub opening : Bool → ℕ
opening true = 91
opening false = 46

-- what is left of a path, within the brackets of an index or not
abbrev pub shown_from : Bool → List ℕ → List ℕ
shown_from inside [] = closing inside
shown_from inside (b ∷ bs) = cond (b == 36) (closing inside ++ opening (begins_index bs) ∷ shown_from (begins_index bs) bs) (b ∷ shown_from inside bs)

abbrev pub shown : List ℕ → List ℕ
shown path = shown_from false path

-- Lines.

-- eight lower case hexadecimal digits, of an address of 32 bits
abbrev pub eight : ℕ → List ℕ
eight n = take (8 - length (digits 16 false n)) (codes "00000000") ++ digits 16 false n

-- the path of the register of a number
abbrev pub path_at : Block → ℕ → List ℕ
path_at b k = option_map_or (λ r. shown r.path) (slice_get b.regs k) []

-- its address and its width
abbrev pub where_is : Word → List ℕ
where_is w = codes "0x" ++ eight w.address ++ codes "," ++ decimal w.width ++ codes ","

-- its register, and its number among the register's words
abbrev pub what_is : Block → Word → List ℕ
what_is b w = path_at b w.reg ++ codes "," ++ decimal w.number ++ codes "\n"

abbrev pub word_line : Block → Word → List ℕ
word_line b w = where_is w ++ what_is b w

-- the word that a write reaches, where it isn't that of the read at its address
abbrev pub other_line : Block → Word → Option Word → List ℕ
other_line b r None = []
other_line b r (Some w) = cond (w.reg == r.reg) [] (word_line b w)

abbrev pub lines_at : Block → ℕ × Word → List ℕ
lines_at b r = word_line b r.1 ++ other_line b r.1 (slice_get b.writes r.0)

-- In order of address, that of the register that is read first.
abbrev pub address_lines : Block → List ℕ
address_lines b = flat_map (lines_at b) (enumerate_from 0 b.reads)

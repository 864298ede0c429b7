-- Where the numbers of short codes stand.
use Rattle.std.specs.List.{list_all, position}
use Rattle.std.specs.Str.{bytes_eq}
use Rattle.std.specs.Prelude.{◌≡◌, ◌⊎◌, ℕ, ◌+◌, ◌-◌, ◌*◌, true, Some, List, [], ◌∷◌, slice_index_or}
use Rattle.vcd_syntax.specs.Words.{is_code_byte}

-- the number that the bytes of a code write in base 95, the least digit first: byte 33 is the digit 1
abbrev pub code_key : List ℕ → ℕ
code_key [] = 0
code_key (b ∷ bs) = (b - 32) + 95 * code_key bs

-- what a table has above 0 at the key of a code is one more than the number of the code
abbrev pub ArePlaces : List ℕ → List (List ℕ) → Type 0
ArePlaces places codes = (code : List ℕ) (n : ℕ) → list_all is_code_byte code ≡ true → slice_index_or places (code_key code) 0 ≡ n + 1 → position (bytes_eq code) codes ≡ Some n

-- a table has what another one has, but for the number of one code
abbrev pub IsNoted : (old new : List ℕ) → List ℕ → ℕ → Type 0
IsNoted old new code number = (key n : ℕ) → slice_index_or new key 0 ≡ n + 1 → (slice_index_or old key 0 ≡ n + 1) ⊎ ((list_all is_code_byte code ≡ true) × (key ≡ code_key code) × (n ≡ number))

-- Numbers (SystemRDL 2.0, 4.6).
use Rattle.std.specs.Char.{is_ascii_digit, is_ascii_hexdigit, digit_value}
use Rattle.std.specs.List.{list_all, list_any, before_first, after_first}
use Rattle.std.specs.Option.{option_map_or}
use Rattle.std.specs.Str.Parse.{digits_value}
use Rattle.std.specs.Prelude.{ℕ, ◌^◌, Bool, true, false, not, ◌&&◌, ◌||◌, ◌==◌, nat_lt, nat_le, if◌then◌else◌, Option, Some, None, option_and_then, List, [], ◌∷◌, length, filter, drop}
pub use Rattle.rdl_tree.specs.Words.{underscore}

abbrev pub is_in_decimal : ℕ → Bool
is_in_decimal b = is_ascii_digit b || b == underscore

abbrev pub is_in_hexadecimal : ℕ → Bool
is_in_hexadecimal b = is_ascii_hexdigit b || b == underscore

-- a digit, then digits and _
abbrev pub is_decimal : List ℕ → Bool
is_decimal [] = false
is_decimal (b ∷ bs) = is_ascii_digit b && list_all is_in_decimal bs

-- 0, then x or X
abbrev pub begins_hexadecimal : List ℕ → Bool
begins_hexadecimal [] = false
begins_hexadecimal (b ∷ []) = false
begins_hexadecimal (b ∷ x ∷ bs) = b == 48 && (x == 120 || x == 88)

-- 0, then x or X, then hexadecimal digits and _
abbrev pub is_hexadecimal : List ℕ → Bool
is_hexadecimal word = begins_hexadecimal word && list_all is_in_hexadecimal (drop 2 word)

-- the base that a letter names: b, o, d or h, of either case
abbrev pub base_of : ℕ → Option ℕ
base_of b =
    if b == 98 || b == 66 then Some 2
    else (if b == 111 || b == 79 then Some 8
    else (if b == 100 || b == 68 then Some 10
    else (if b == 104 || b == 72 then Some 16 else None)))

-- which bytes go on with a number of this base
abbrev pub is_in_base : ℕ → ℕ → Bool
is_in_base base b = if base == 16 then is_in_hexadecimal b else is_in_decimal b

-- a base letter, then digits and _, which may be hexadecimal where the base is; or nothing, which is then no number
abbrev pub is_based : List ℕ → Bool
is_based [] = true
is_based (b ∷ bs) = option_map_or (λ base. list_all (is_in_base base) bs) (base_of b) false

abbrev pub is_quote : ℕ → Bool
is_quote b = b == 39

-- a size, then ', then a base and digits
abbrev pub is_sized : List ℕ → Bool
is_sized word = is_decimal (before_first is_quote word) && (list_any is_quote word && is_based (after_first is_quote word))

-- without each _, which has no value
abbrev pub digits_of : List ℕ → List ℕ
digits_of run = filter (λ b. not (b == underscore)) run

-- the run has a digit, all its digits are of the base, and their value is below 2 to the number of bits
abbrev pub is_value : (bits base : ℕ) → List ℕ → Bool
is_value bits base run = nat_lt 0 (length (digits_of run)) && (list_all (λ b. nat_lt (digit_value b) base) (digits_of run) && nat_lt (digits_value base (digits_of run)) (2 ^ bits))

-- the value of a run of digits, if it is one of so many bits
unfoldable pub value_of : (bits base : ℕ) → List ℕ → Option ℕ
value_of bits base run = if is_value bits base run then Some (digits_value base (digits_of run)) else None

-- the value of a base and digits behind a size, which is 1 to 64 bits
abbrev pub value_of_size : ℕ → List ℕ → Option ℕ
value_of_size size [] = None
value_of_size size (b ∷ run) = if nat_le 1 size && nat_le size 64 then option_and_then (λ base. value_of size base run) (base_of b) else None

abbrev pub decimal_value : List ℕ → Option ℕ
decimal_value word = value_of 64 10 word

-- What may be wrong with a word of a dump, by the words before it (this project's rules).
use Rattle.std.specs.List.{list_all, last_or}
use Rattle.std.specs.Str.Parse.{digits_value}
use Rattle.std.specs.Prelude.{◌≡◌, ℕ, ◌+◌, ◌*◌, ◌^◌, ◌<◌, ◌≤◌, Bool, true, false, ◌||◌, ◌==◌, Some, None, List, [], ◌∷◌, ◌++◌, length, drop, take}
use Rattle.v_design.specs.Lexemes.{among}
use Rattle.vcd_syntax.specs.declared.kind.Kind.TheVariants.{Code, Name, Time, Scalar, Bits, Taker}
use Rattle.vcd_syntax.specs.Words.{decimal_value}
use Rattle.vcd_syntax.specs.Tokens.{Token}
use Rattle.vcd_syntax.specs.Meaning.{names, codes, width_of, events, times}

-- what may be wrong, in the order in which it is judged at one place
pub data Problem : Type 0 where
  Misformed Repeated Unknown Unfit Untimely Excessive : Problem

abbrev pub turn : Problem → ℕ
turn Misformed = 0
turn Repeated = 1
turn Unknown = 2
turn Unfit = 3
turn Untimely = 4
turn Excessive = 5

-- 0 or 1
abbrev pub is_known_bit : ℕ → Bool
is_known_bit b = b == 48 || b == 49

-- times by variables that a table may have (this project's rule)
abbrev pub most_times : ℕ
most_times = 1000000

abbrev pub most_values : ℕ
most_values = 16777216

-- A mark behind these is at fault, at a place.
pub data IsFaulty (before : List Token) (m : Token) : Problem → ℕ → Type 0 where
  -- a variable's code, or its name, is that of an earlier one
  code_again : m.kind ≡ Code → among (codes before) m.word.token ≡ true → IsFaulty before m Repeated m.word.place
  name_again : m.kind ≡ Name → among (names before) m.word.token ≡ true → IsFaulty before m Repeated m.word.place
  -- a change names no variable
  no_taker : m.kind ≡ Taker → among (codes before) m.word.token ≡ false → IsFaulty before m Unknown m.word.place
  no_scalar : m.kind ≡ Scalar → among (codes before) (drop 1 m.word.token) ≡ false → IsFaulty before m Unknown m.word.place
  -- a bit is x or z
  unknown_bit : m.kind ≡ Scalar → list_all is_known_bit (take 1 m.word.token) ≡ false → IsFaulty before m Unfit m.word.place
  unknown_bits : m.kind ≡ Bits → list_all is_known_bit (drop 1 m.word.token) ≡ false → IsFaulty before m Unfit m.word.place
  -- one bit is for a wider variable
  one_bit : (w : ℕ) → m.kind ≡ Scalar → width_of before (drop 1 m.word.token) ≡ Some w → 1 < w → IsFaulty before m Unfit m.word.place
  -- the number of the word before does not fit the variable
  too_wide : (front : List Token) (bits : Token) (w : ℕ) → m.kind ≡ Taker → before ≡ front ++ bits ∷ [] → width_of before m.word.token ≡ Some w
      → 2 ^ w ≤ digits_value 2 (drop 1 bits.word.token) → IsFaulty before m Unfit bits.word.place
  -- a time is not above the one before, or does not fit 64 bits
  not_above : (s : ℕ) → m.kind ≡ Time → last_or None (times (events before)) ≡ Some s → decimal_value (drop 1 m.word.token) ≤ s → IsFaulty before m Untimely m.word.place
  too_late : m.kind ≡ Time → 2 ^ 64 ≤ decimal_value (drop 1 m.word.token) → IsFaulty before m Untimely m.word.place
  -- there are too many times, or too many values
  too_many_times : m.kind ≡ Time → most_times ≤ length (times (events before)) → IsFaulty before m Excessive m.word.place
  too_many_values : m.kind ≡ Time → most_values < (length (times (events before)) + 1) * length (codes before) → IsFaulty before m Excessive m.word.place

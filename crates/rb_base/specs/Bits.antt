-- Bits of numbers.
use Rattle.std.specs.Prelude.{ℕ, ◌+◌, ◌-◌, ◌*◌, ◌/◌, ◌%◌, ◌^◌}

-- the greatest number of w bits
abbrev pub ones : ℕ → ℕ
ones w = 2 ^ w - 1

-- the number that the bits hi to lo of v make
abbrev pub part : (v hi lo : ℕ) → ℕ
part v hi lo = v / 2 ^ lo % 2 ^ (hi - lo + 1)

-- v with x in place of its bits hi to lo
abbrev pub put : (v hi lo x : ℕ) → ℕ
put v hi lo x = v / 2 ^ (hi + 1) * 2 ^ (hi + 1) + x * 2 ^ lo + v % 2 ^ lo

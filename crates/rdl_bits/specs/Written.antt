-- Bits as a table keeps them.
use Rattle.std.specs.Prelude.{ℕ, cond, nat_lt}
use Rattle.rdl_layout.specs.declared.bits.FieldBits.{FieldBits}

-- a number of eight bits, or 0
abbrev pub narrow : ℕ → ℕ
narrow n = cond (nat_lt n 256) n 0

abbrev pub narrowed : FieldBits → ℕ × ℕ
narrowed b = (narrow b.high, narrow b.low)

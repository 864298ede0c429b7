-- Counts, which stop at the end of u64.
use Rattle.std.specs.Prelude.{◌≡◌, ◌⊎◌, ℕ, ◌+◌, ◌-◌, ◌^◌, ◌<◌, min, max}

-- a count raised by n, which stops at the end of u64
abbrev pub raised : ℕ → ℕ → ℕ
raised count n = max count (min (count + n) (2 ^ 64 - 1))

-- a count of faults rose in a call: it is greater than before, or stands at the end of u64
abbrev pub Rose : ℕ → ℕ → Type 0
Rose before now = (before < now) ⊎ (now ≡ 2 ^ 64 - 1)

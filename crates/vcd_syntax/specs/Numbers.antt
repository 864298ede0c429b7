-- Numbers as the program holds them.
use Rattle.std.specs.Prelude.{ℕ, ◌^◌, nat_lt, if◌then◌else◌, Option, Some, None}

-- a number, where it fits so many bits
abbrev pub within : ℕ → ℕ → Option ℕ
within bits n = if nat_lt n (2 ^ bits) then Some n else None

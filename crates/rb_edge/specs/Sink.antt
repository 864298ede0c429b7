-- What a sink tells of what it took.
use Rattle.std.specs.Prelude.{◌≡◌, ℕ, ◌<◌, List, length, take, ⊤, Option, None, Some}
use Rattle.std.specs.Io.KnownBytes.{Appends}
use Rattle.rb_edge.specs.Count.{raised}

-- the bytes written, and the number of bytes taken, each where the sink tells it
pub record Told : Type 0 where
  pub bytes : Option (List ℕ)
  pub number : Option ℕ

-- a number that is told rises by n, and stops at the end of u64
abbrev pub Counts : Option ℕ → Option ℕ → ℕ → Type 0
Counts None new n = ⊤
Counts (Some number) None n = ⊥
Counts (Some number) (Some now) n = now ≡ raised number n

-- a sink took these bytes, and no others
pub record Takes (old new : Told) (bytes : List ℕ) : Type 0 where
  pub appended : Appends old.bytes new.bytes bytes
  pub counted : Counts old.number new.number (length bytes)

-- a sink took a proper prefix of these bytes, and no others
pub record TakesPart (old new : Told) (bytes : List ℕ) : Type 0 where
  pub count : ℕ
  pub fewer : count < length bytes
  pub taken : Takes old new (take count bytes)

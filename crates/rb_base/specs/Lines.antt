-- Lines and columns, which count from 1.
use Rattle.std.specs.Prelude.{ℕ, ◌+◌, ◌==◌, Bool, List, length, take, count_by}
use Rattle.std.specs.List.{after_last}

abbrev pub is_line_feed : ℕ → Bool
is_line_feed byte = byte == 10

-- the line of a place: one more than the line feeds before it
abbrev pub line_of : List ℕ → ℕ → ℕ
line_of source place = 1 + count_by is_line_feed (take place source)

-- the column of a place: one more than the bytes before it since the last line feed
abbrev pub column_of : List ℕ → ℕ → ℕ
column_of source place = 1 + length (after_last is_line_feed (take place source))

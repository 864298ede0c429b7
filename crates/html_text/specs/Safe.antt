-- The bytes that neither end a text nor begin or end a tag.
use Rattle.std.specs.Prelude.{ℕ, ◌==◌, Bool, not, ◌&&◌}

abbrev pub is_safe : ℕ → Bool
is_safe b = not (b == 60) && not (b == 62) && not (b == 34) && not (b == 39)

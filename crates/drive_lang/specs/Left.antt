-- What is left of a script.
use Rattle.std.specs.Prelude.{◌≡◌, ℕ, ◌+◌, ◌^◌, ◌<◌, ◌==◌, Bool, true, nat_lt, if◌then◌else◌, Option, None, Some, List, [], ◌∷◌, drop, slice_get}
use Rattle.std.specs.List.{list_all}
use Rattle.drive_lang.specs.declared.order.Order.{Order}
use Rattle.drive_lang.specs.declared.order.Order.TheVariants.{Poke, Peek, Expect, Set, See, Reset}
use Rattle.drive_lang.specs.declared.order.Line.{Line}
use Rattle.rb_model.specs.Protocol.{Bus, idle}
use Rattle.drive_lang.specs.declared.order.Turn.{Turn}
use Rattle.drive_lang.specs.declared.order.Turn.TheVariants.{End}
use Rattle.drive_lang.specs.Steps.{Ask, Checks, Nothing, Shows, Step, access, in_reset, played, read_data, setup, turn_of, vectors_of}
use Rattle.drive_lang.specs.declared.position.Position.{Position}

-- the steps that are left from a position on
abbrev pub left_of : List Line → Position → (held : List ℕ) → List Step
left_of lines at held = drop at.over (played (drop at.line lines) held)

abbrev pub vectors_in : Option Line → ℕ
vectors_in None = 0
vectors_in (Some l) = vectors_of l.order

-- how many vectors the line at a place has
abbrev pub vectors_at : List Line → ℕ → ℕ
vectors_at lines k = vectors_in (slice_get lines k)

-- the pin of a setting is among so many
abbrev pub is_held : Order → ℕ → Bool
is_held (Set k v) n = nat_lt k n
is_held _ n = true

abbrev pub are_held : List Line → ℕ → Bool
are_held lines n = list_all (λ l. is_held l.order n) lines

-- the line at a position has a vector left, or there is no line; vectors are counted in 32 bits
abbrev pub HasNext : Option Line → ℕ → Type 0
HasNext None over = Unit {0}
HasNext (Some l) over = (over < vectors_of l.order) × (over + 1 < 2 ^ 32)

abbrev pub IsAt : List Line → Position → Type 0
IsAt lines at = HasNext (slice_get lines at.line) at.over

-- the bus at the vector of a line behind so many of its vectors
abbrev pub bus_at : Order → ℕ → Bus
bus_at (Poke a v) k = if k == 0 then setup a 1 v else access a 1 v
bus_at (Peek a name) k = if k == 0 then setup a 0 0 else access a 0 0
bus_at (Expect a v name) k = if k == 0 then setup a 0 0 else access a 0 0
bus_at (Reset n) k = in_reset
bus_at _ k = idle

-- what is asked at it
abbrev pub ask_at : (line : ℕ) → Order → ℕ → Ask
ask_at line (Peek a name) k = if k == 0 then Nothing else Shows line name read_data
ask_at line (Expect a v name) k = if k == 0 then Nothing else Checks line name read_data v
ask_at line (See o v name) k = Checks line name o v
ask_at line _ k = Nothing

-- One step is taken, if one is left: the pins are its vector, and the answer is what it asks. Else the pins are as they were.
abbrev pub Takes : (left rest : List Step) → Turn → (before after : List ℕ) → Type 0
Takes [] rest turn before after = (rest ≡ []) × (turn ≡ End) × (after ≡ before)
Takes (s ∷ ss) rest turn before after = (rest ≡ ss) × (turn ≡ turn_of s.ask) × (after ≡ s.vector)

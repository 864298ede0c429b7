-- The vectors that the lines of a script mean, and what is asked of the outputs at each (this project's format, over IHI 0024B).
use Rattle.std.specs.Prelude.{ℕ, List, [], ◌∷◌, ◌++◌, replicate, set}
use Rattle.rb_model.specs.Protocol.{Bus, idle}
use Rattle.drive_lang.specs.declared.order.Order.{Order}
use Rattle.drive_lang.specs.declared.order.Order.TheVariants.{Poke, Peek, Expect, Set, See, Wait, Reset}
use Rattle.drive_lang.specs.declared.order.Line.{Line}
use Rattle.drive_lang.specs.declared.order.Turn.{Turn}
use Rattle.drive_lang.specs.declared.order.Turn.TheVariants.{Plain, Show, Check}

-- What is asked of the outputs at a vector: nothing, to show one of them, or to check it. An output is meant by its place among all
-- outputs; the line that asks has a number, and a name that it spells.
pub data Ask : Type 0 where
  Nothing : Ask
  Shows : (line : ℕ) (name : List ℕ) (output : ℕ) → Ask
  Checks : (line : ℕ) (name : List ℕ) (output wanted : ℕ) → Ask

-- a vector, and what is asked at it
pub record Step : Type 0 where
  pub vector : List ℕ
  pub ask : Ask

-- a transfer without wait states: its first vector, and the one of the access
abbrev pub setup : (address write written : ℕ) → Bus
setup a w d = record { resetn = 1; address = a; select = 1; enable = 0; write = w; data_in = d }

abbrev pub access : (address write written : ℕ) → Bus
access a w d = record { resetn = 1; address = a; select = 1; enable = 1; write = w; data_in = d }

-- under reset nothing is selected
abbrev pub in_reset : Bus
in_reset = record { resetn = 0; address = 0; select = 0; enable = 0; write = 0; data_in = 0 }

-- the numbers of the bus's inputs, in port order
abbrev pub numbers_of : Bus → List ℕ
numbers_of p = p.resetn ∷ p.address ∷ p.select ∷ p.enable ∷ p.write ∷ p.data_in ∷ []

-- a vector: the bus's inputs, and those behind them as they are held
abbrev pub step : Bus → (held : List ℕ) → Ask → Step
step bus held ask = record { vector = numbers_of bus ++ held; ask = ask }

-- the place of PRDATA among the outputs
abbrev pub read_data : ℕ
read_data = 1

-- the steps of a line
abbrev pub steps_of : (line : ℕ) → Order → (held : List ℕ) → List Step
steps_of line (Poke a v) held = step (setup a 1 v) held Nothing ∷ step (access a 1 v) held Nothing ∷ []
steps_of line (Peek a name) held = step (setup a 0 0) held Nothing ∷ step (access a 0 0) held (Shows line name read_data) ∷ []
steps_of line (Expect a v name) held = step (setup a 0 0) held Nothing ∷ step (access a 0 0) held (Checks line name read_data v) ∷ []
steps_of line (Set k v) held = []
steps_of line (See o v name) held = step idle held (Checks line name o v) ∷ []
steps_of line (Wait n) held = replicate n (step idle held Nothing)
steps_of line (Reset n) held = replicate n (step in_reset held Nothing)

-- how many there are
abbrev pub vectors_of : Order → ℕ
vectors_of (Poke a v) = 2
vectors_of (Peek a name) = 2
vectors_of (Expect a v name) = 2
vectors_of (Set k v) = 0
vectors_of (See o v name) = 1
vectors_of (Wait n) = n
vectors_of (Reset n) = n

-- what is held behind a line
abbrev pub held_after : Order → List ℕ → List ℕ
held_after (Set k v) held = set held k v
held_after _ held = held

-- the steps of lines, in order
abbrev pub played : List Line → (held : List ℕ) → List Step
played [] held = []
played (l ∷ ls) held = steps_of l.number l.order held ++ played ls (held_after l.order held)

-- the turn of a step: what is asked, without the name
abbrev pub turn_of : Ask → Turn
turn_of Nothing = Plain
turn_of (Shows line name output) = Show line output
turn_of (Checks line name output wanted) = Check line output wanted

-- A script that is played.
use Rattle.std.specs.Prelude.{◌≡◌, ℕ, ◌+◌, Option, None, Some, List, Contains, length, replicate}
use Rattle.drive_lang.specs.declared.order.Order.{Order}
use Rattle.drive_lang.specs.declared.order.Order.TheVariants.{Peek, Expect, See}
use Rattle.drive_lang.specs.declared.order.Line.{Line}
use Rattle.drive_lang.specs.declared.order.Turn.{Turn}
use Rattle.drive_lang.specs.Steps.{Ask, Checks, Nothing, Shows, Step, played}
use Rattle.drive_lang.specs.declared.position.Position.{Position}
use Rattle.drive_lang.specs.Left.{Takes, left_of}

-- how many pins its vectors have, all its steps, and those that are left
pub record Playing : Type 0 where
  pub pins : ℕ
  pub all : List Step
  pub left : List Step

-- at first all pins outside the bus are 0
abbrev pub playing : List Line → Position → (held : List ℕ) → Playing
playing lines at held = record { pins = 6 + length held; all = played lines (replicate (length held) 0); left = left_of lines at held }

-- one step more is taken, if one is left
pub record GoesOn (old new : Playing) (turn : Turn) (before after : List ℕ) : Type 0 where
  pub pins : new.pins ≡ old.pins
  pub all : new.all ≡ old.all
  pub taken : Takes old.left new.left turn before after

-- the name of the output that a line asks for
abbrev pub name_in : Order → Option (List ℕ)
name_in (Peek a name) = Some name
name_in (Expect a v name) = Some name
name_in (See o v name) = Some name
name_in _ = None

-- this line asks, and spells this name
abbrev pub AsksAs : Ask → (line : ℕ) (name : List ℕ) → Type 0
AsksAs Nothing line name = ⊥
AsksAs (Shows l n output) line name = (l ≡ line) × (n ≡ name)
AsksAs (Checks l n output wanted) line name = (l ≡ line) × (n ≡ name)

-- one of the steps is asked for by this line, under this name
pub record IsSpelled (steps : List Step) (line : ℕ) (name : List ℕ) : Type 0 where
  pub step : Step
  pub among : Contains steps step
  pub asks : AsksAs step.ask line name

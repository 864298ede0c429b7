-- What the words of a dump say: its variables, and what becomes of them (IEEE 1364-2005, clause 18.2).
use Rattle.std.specs.Option.{option_or}
use Rattle.std.specs.List.{position}
use Rattle.std.specs.Str.Parse.{digits_value}
use Rattle.std.specs.Str.{bytes_eq}
use Rattle.std.specs.Prelude.{◌≡◌, ℕ, zero, suc, ◌+◌, ◌<◌, if◌then◌else◌, IsSomeAnd, Option, Some, None, option_and_then, List, [], ◌∷◌, ◌++◌, length, map, filter, drop, take, slice_get}
use Rattle.rb_base.specs.declared.ports.Pin.{Pin}
use Rattle.vcd_syntax.specs.declared.kind.Kind.{Kind}
use Rattle.vcd_syntax.specs.declared.kind.Kind.TheVariants.{Heading, Said, End, Scope, ScopeKind, ScopeName, Upscope, Var, NetKind, Width, Code, Name, Range, EndDefinitions, Time, Scalar, Bits, Taker, DumpVars, Comment}
use Rattle.vcd_syntax.specs.Words.{decimal_value}
use Rattle.vcd_syntax.specs.Grammar.{same}
use Rattle.vcd_syntax.specs.Tokens.{Token}

-- the words that stand for a kind, in order
abbrev pub words_of : Kind → List Token → List (List ℕ)
words_of kind ms = map (λ m. m.word.token) (filter (λ m. same kind m.kind) ms)

-- the names, the codes and the widths of the variables, in order (clause 18.2.3)
abbrev pub names : List Token → List (List ℕ)
names ms = words_of Name ms

abbrev pub codes : List Token → List (List ℕ)
codes ms = words_of Code ms

abbrev pub widths : List Token → List ℕ
widths ms = map decimal_value (words_of Width ms)

-- names with their widths
abbrev pub pins_by : (names : List (List ℕ)) → (widths : List ℕ) → List Pin
pins_by [] ws = []
pins_by (n ∷ ns) [] = []
pins_by (n ∷ ns) (w ∷ ws) = record { name = n; width = w } ∷ pins_by ns ws

-- the variables
abbrev pub pins : List Token → List Pin
pins ms = pins_by (names ms) (widths ms)

-- the width of the variable of this code
abbrev pub width_of : List Token → List ℕ → Option ℕ
width_of ms code = option_and_then (λ i. slice_get (widths ms) i) (position (bytes_eq code) (codes ms))

-- a time comes, or the variable of a code is given a value
pub data Event : Type 0 where
  Comes : (time : ℕ) → Event
  Gives : (code : List ℕ) → (value : ℕ) → Event

-- what a word of a kind says, behind the word before it
abbrev pub said_by : Kind → (before word : List ℕ) → List Event
said_by Time before word = Comes (decimal_value (drop 1 word)) ∷ []
said_by Scalar before word = Gives (drop 1 word) (digits_value 2 (take 1 word)) ∷ []
said_by Taker before word = Gives word (digits_value 2 (drop 1 before)) ∷ []
said_by _ before word = []

-- all that happens behind a word, in order
unfoldable pub events_after : List ℕ → List Token → List Event
events_after before [] = []
events_after before (m ∷ ms) = said_by m.kind before m.word.token ++ events_after m.word.token ms

-- all that happens, in order
abbrev pub events : List Token → List Event
events ms = events_after [] ms

-- the times, in order
abbrev pub times : List Event → List ℕ
times [] = []
times (Comes t ∷ es) = t ∷ times es
times (Gives c x ∷ es) = times es

-- what happens before the time of this number, counted from 0, or all
abbrev pub before_time : ℕ → List Event → List Event
before_time n [] = []
before_time zero (Comes t ∷ es) = []
before_time (suc n) (Comes t ∷ es) = Comes t ∷ before_time n es
before_time n (Gives c x ∷ es) = Gives c x ∷ before_time n es

-- the last value that the variable of a code is given
abbrev pub last_given : List Event → List ℕ → Option ℕ
last_given [] code = None
last_given (Comes t ∷ es) code = last_given es code
last_given (Gives c x ∷ es) code = option_or (last_given es code) (if bytes_eq c code then Some x else None)

-- the values of the variables at a time: the last ones before the next time
abbrev pub values_at : List Token → ℕ → List (Option ℕ)
values_at ms k = map (last_given (before_time (k + 1) (events ms))) (codes ms)

-- one row for each time, with a value for each variable
pub record AreRows (ms : List Token) (rows : List (List ℕ)) : Type 0 where
  pub count : length rows ≡ length (times (events ms))
  pub each : (k : ℕ) → k < length rows → IsSomeAnd (slice_get rows k) (λ row. map Some row ≡ values_at ms k)

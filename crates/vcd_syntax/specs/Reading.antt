-- Which text has which table, and what is wrong with any other (IEEE 1364-2005, clause 18; the rules are this project's).
use Rattle.std.specs.Prelude.{◌≡◌, ◌⊎◌, ℕ, ◌<◌, ◌≤◌, Some, None, List, [], ◌∷◌, ◌++◌, length, slice_get}
use Rattle.rb_base.specs.declared.ports.Pin.{Pin}
use Rattle.rb_grammar.specs.Spelling.{Spells}
use Rattle.vcd_syntax.specs.Words.{vcd}
use Rattle.vcd_syntax.specs.Tokens.{Word, Token, AreBegun, AreWhole}
use Rattle.vcd_syntax.specs.Meaning.{pins, events, times, values_at, AreRows}
use Rattle.vcd_syntax.specs.Faulty.{Problem, Misformed, Repeated, Unknown, Unfit, Untimely, Excessive, turn, IsFaulty}
use Rattle.vcd_syntax.specs.declared.error.VcdError.{VcdError}
use Rattle.vcd_syntax.specs.declared.error.VcdError.TheVariants as error

-- the next of these words does not go on with a dump, or there is none and the words before are no dump
abbrev pub Stops : (front left : List Word) → Type 0
Stops front [] = (ms : List Token) → AreWhole front ms → ⊥
Stops front (w ∷ left) = (ms : List Token) → AreBegun (front ++ w ∷ []) ms → ⊥

-- the place of the next word, or the end of a text of this size
abbrev pub place_in : ℕ → List Word → ℕ
place_in size [] = size
place_in size (w ∷ ws) = w.place

-- the words of a text stop being a dump at this place
pub record StopsAt (text : List ℕ) (place : ℕ) : Type 0 where
  pub front : List Word
  pub left : List Word
  pub ms : List Token
  pub spelled : Spells vcd text (front ++ left)
  pub begun : AreBegun front ms
  pub stops : Stops front left
  pub at : place ≡ place_in (length text) left

-- a text begins as a dump does, the last word of which is at fault
pub record FaultsAt (text : List ℕ) (p : Problem) (place : ℕ) : Type 0 where
  pub front : List Word
  pub left : List Word
  pub before : List Token
  pub last : Token
  pub spelled : Spells vcd text (front ++ left)
  pub begun : AreBegun front (before ++ last ∷ [])
  pub faulty : IsFaulty before last p place

-- a problem of a text, with its place
abbrev pub Has : List ℕ → Problem → ℕ → Type 0
Has text p place = ((p ≡ Misformed) × StopsAt text place) ⊎ FaultsAt text p place

-- the problem of a text at the least place, and of those there the first in turn
pub record IsFirst (text : List ℕ) (p : Problem) (place : ℕ) : Type 0 where
  pub has : Has text p place
  pub first : (q : Problem) (k : ℕ) → Has text q k → (place < k) ⊎ ((place ≡ k) × (turn p ≤ turn q))

-- a text is a dump without a problem
pub record IsSound (text : List ℕ) (ms : List Token) : Type 0 where
  pub words : List Word
  pub spelled : Spells vcd text words
  pub whole : AreWhole words ms
  pub none : (q : Problem) (k : ℕ) → Has text q k → ⊥

-- the table of a text: its variables, and their values at each time
pub record IsTable (text : List ℕ) (ps : List Pin) (rows : List (List ℕ)) : Type 0 where
  pub ms : List Token
  pub sound : IsSound text ms
  pub variables : ps ≡ pins ms
  pub values : AreRows ms rows

-- a variable has no value before the second time, and each before it has one
pub record Lacks (text : List ℕ) (pin : ℕ) : Type 0 where
  pub ms : List Token
  pub sound : IsSound text ms
  pub timed : 0 < length (times (events ms))
  pub none : slice_get (values_at ms 0) pin ≡ Some None
  pub before : (j : ℕ) → j < pin → slice_get (values_at ms 0) j ≡ Some None → ⊥

-- why a text has no table
abbrev pub Fails : List ℕ → VcdError → Type 0
Fails text (error.Form p) = IsFirst text Misformed p.0
Fails text (error.Twice p) = IsFirst text Repeated p.0
Fails text (error.Code p) = IsFirst text Unknown p.0
Fails text (error.Value p) = IsFirst text Unfit p.0
Fails text (error.Time p) = IsFirst text Untimely p.0
Fails text (error.Many p) = IsFirst text Excessive p.0
Fails text (error.NoValue i) = Lacks text i
Fails text error.NoMemory = ⊥

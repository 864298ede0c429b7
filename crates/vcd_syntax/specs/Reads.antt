-- How far a text was read.
use Rattle.std.specs.Prelude.{◌≡◌, ℕ, Some, List, [], ◌∷◌, ◌++◌, map}
use Rattle.rb_grammar.specs.Spelling.{Spells}
use Rattle.vcd_syntax.specs.Words.{vcd}
use Rattle.vcd_syntax.specs.Tokens.{Word, Token, kinds_of, AreBegun}
use Rattle.vcd_syntax.specs.Meaning.{codes, names, widths, events}
use Rattle.vcd_syntax.specs.Faulty.{Problem, IsFaulty}
use Rattle.vcd_syntax.specs.declared.state.State.{State}
use Rattle.vcd_syntax.specs.declared.state.State.TheVariants as state
use Rattle.vcd_syntax.specs.Exits.{after_all}
use Rattle.vcd_syntax.specs.Known.{Known, IsOrderly}

abbrev pub words : List Token → List Word
words ms = map (λ m. m.word) ms

-- the words of a text so far stand for these kinds, and none of them is at fault
pub record Read (text : List ℕ) (ms : List Token) (left : List Word) : Type 0 where
  pub spelled : Spells vcd text (words ms ++ left)
  pub begun : AreBegun (words ms) ms
  pub clean : (front : List Token) (m : Token) (behind : List Token) (p : Problem) (k : ℕ) → ms ≡ front ++ (m ∷ behind) → IsFaulty front m p k → ⊥

-- the word before the next, where the marks stand behind one
abbrev pub last_word : List ℕ → List Token → List ℕ
last_word before [] = before
last_word before (m ∷ ms) = last_word m.word.token ms

-- of these marks this is known
pub record Knows (ms : List Token) (k : Known) : Type 0 where
  pub codes : codes ms ≡ k.codes
  pub names : names ms ≡ k.names
  pub widths : widths ms ≡ k.widths
  pub events : events ms ≡ k.events
  pub word : last_word [] ms ≡ k.word

-- where the word before the next stands
abbrev pub last_place : ℕ → List Token → ℕ
last_place before [] = before
last_place before (m ∷ ms) = last_place m.word.place ms

-- some words of a text are read without a fault and these are left: the grammar is at a state, this is known, and here stands the last word
pub record Reads (text : List ℕ) (left : List Word) (s : State) (k : Known) (place : ℕ) : Type 0 where
  pub ms : List Token
  pub read : Read text ms left
  pub leads : after_all state.Front (kinds_of ms) ≡ Some s
  pub knows : Knows ms k
  pub at : last_place 0 ms ≡ place
  pub orderly : IsOrderly s k

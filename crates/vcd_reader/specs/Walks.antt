-- How far a dump was walked.
use Rattle.std.specs.Prelude.{◌≡◌, ℕ, ◌+◌, Some, List, ◌++◌, length, drop}
use Rattle.rb_grammar.specs.Spelling.{SpellsFrom, Spells}
use Rattle.vcd_syntax.specs.Words.{vcd}
use Rattle.vcd_syntax.specs.Tokens.{Word, Token, kinds_of}
use Rattle.vcd_syntax.specs.Meaning.{names}
use Rattle.vcd_syntax.specs.declared.state.State.{State}
use Rattle.vcd_syntax.specs.declared.state.State.TheVariants as state
use Rattle.vcd_syntax.specs.Exits.{after_all}
use Rattle.vcd_syntax.specs.Reads.{words}

-- so many bytes of a text of these marks are walked, up to a state, and so many names are left to that of a number
pub record IsWalked (text : List ℕ) (ms : List Token) (at : ℕ) (s : State) (left number : ℕ) : Type 0 where
  pub front : List Token
  pub back : List Token
  pub are : ms ≡ front ++ back
  pub spelled : (ws : List Word) → SpellsFrom vcd (length text) (drop at text) ws → Spells vcd text (words front ++ ws)
  pub leads : after_all state.Front (kinds_of front) ≡ Some s
  pub count : length (names front) + left ≡ number

-- What stands at the front of a text.
use Rattle.std.specs.Prelude.{ℕ, ◌+◌, ◌<◌, ◌≤◌, false, List, ◌∷◌, length, take, drop}
use Rattle.rb_grammar.specs.Separators.{Skips}
use Rattle.rb_grammar.specs.Spelling.{IsNext, SpellsFrom}
use Rattle.vcd_syntax.specs.Words.{vcd}
use Rattle.vcd_syntax.specs.Tokens.{Word}
use Rattle.vcd_reader.specs.declared.words.Word.{Word as Placed}

-- so many blanks, and behind them a word of so many bytes
pub record StartsBy (text : List ℕ) (gap len : ℕ) : Type 0 where
  pub within : gap + len ≤ length text
  pub some : 0 < len
  pub skips : Skips false text (drop gap text)
  pub next : IsNext vcd (drop gap text) (take len (drop gap text)) (drop len (drop gap text))

-- a word as definitions see it
abbrev pub word_of : Placed → Word
word_of w = record { token = w.text.now; place = w.place.0 }

-- a word is the first behind so many bytes of a text: what is spelled behind it is spelled with it
pub record IsBehind (text : List ℕ) (at : ℕ) (w : Word) : Type 0 where
  pub within : w.place + length w.token ≤ length text
  pub further : at < w.place + length w.token
  pub spelled : (left : List Word) → SpellsFrom vcd (length text) (drop (w.place + length w.token) text) left → SpellsFrom vcd (length text) (drop at text) (w ∷ left)

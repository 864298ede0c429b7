-- The tokens of a text up to its end, or up to where no token comes next.
use Rattle.std.specs.Prelude.{◌≡◌, ℕ, Option, Some, None, List, [], ◌∷◌, length}
use Rattle.rb_grammar.specs.Spelling.{At, Fault, StartsWith, FailsAt, Spells}
use Rattle.v_design.specs.Lexemes.{Token, verilog}

-- the end of a text of this size begins with these tokens, and goes on with the rest
abbrev pub SpellsUpTo : ℕ → List ℕ → List (At Token) → List ℕ → Type 0
SpellsUpTo size text [] rest = text ≡ rest
SpellsUpTo size text (t ∷ ts) rest = (after : List ℕ) × StartsWith verilog size text t after × SpellsUpTo size after ts rest

-- these are the tokens of the text, and behind them is its end, or a place at which no token begins
pub data Scans (text : List ℕ) (ts : List (At Token)) : Option ℕ → Type 0 where
  whole : Spells verilog text ts → Scans text ts None
  broken : {rest : List ℕ} {f : Fault} {place : ℕ} → SpellsUpTo (length text) text ts rest → FailsAt verilog (length text) rest f place → Scans text ts (Some place)

-- The words of a text as parts of a dump.
use Rattle.std.specs.List.{AllByRecursion}
use Rattle.std.specs.Prelude.{◌≡◌, ℕ, IsTrue, List, map}
use Rattle.rb_grammar.specs.Forms.{Non, Fits, Begins}
use Rattle.rb_grammar.specs.Spelling.{At}
use Rattle.vcd_syntax.specs.declared.kind.Kind.{Kind}
use Rattle.vcd_syntax.specs.Words.{is}
use Rattle.vcd_syntax.specs.Grammar.{grammar, Dump}

-- a word with its place, at bytes from the front
abbrev pub Word : Type 0
Word = At (List ℕ)

-- a word, and what it stands for
pub record Token : Type 0 where
  pub kind : Kind
  pub word : Word

abbrev pub kinds_of : List Token → List Kind
kinds_of ms = map (λ m. m.kind) ms

-- each word is of the kind that it stands for
abbrev pub AreOfTheirKinds : List Token → Type 0
AreOfTheirKinds ms = AllByRecursion (λ m. IsTrue (is m.kind m.word.token)) ms

-- the words, standing for these kinds, begin a dump
pub record AreBegun (words : List Word) (ms : List Token) : Type 0 where
  pub are : map (λ m. m.word) ms ≡ words
  pub each : AreOfTheirKinds ms
  pub begins : Begins grammar (Non Dump) (kinds_of ms)

-- the words, standing for these kinds, are a dump
pub record AreWhole (words : List Word) (ms : List Token) : Type 0 where
  pub are : map (λ m. m.word) ms ≡ words
  pub each : AreOfTheirKinds ms
  pub fits : Fits grammar (Non Dump) (kinds_of ms)

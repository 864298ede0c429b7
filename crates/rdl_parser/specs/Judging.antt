-- What is wrong with a list of tokens: where it stops being a source, or where it nests too deep.
use Rattle.std.specs.Prelude.{ℕ, ◌+◌, ◌-◌, List, length, take}
use Rattle.rb_grammar.specs.Forms.{Non, Fits, Begins, StopsAt}
use Rattle.rdl_tree.specs.declared.token.Token.{Token}
use Rattle.rdl_tree.specs.Grammar.{Source, grammar}
use Rattle.rdl_lexer.specs.Depth.{StaysWithin, IsFirstTooDeep}

-- it is a source, and no token nests too deep
pub record IsGood (ts : List Token) : Type 0 where
  pub fits : Fits grammar (Non Source) ts
  pub within : StaysWithin ts

-- it stops being a source before what is left, and no token before nests too deep
pub record IsWrongAt (ts left : List Token) : Type 0 where
  pub stops : StopsAt grammar (Non Source) ts left
  pub within : StaysWithin (take (length ts - length left) ts)

-- the token at this index is the first that nests too deep, and the list up to and with it begins a source
pub record IsTooDeepAt (ts : List Token) (i : ℕ) : Type 0 where
  pub first : IsFirstTooDeep ts i
  pub begins : Begins grammar (Non Source) (take (i + 1) ts)

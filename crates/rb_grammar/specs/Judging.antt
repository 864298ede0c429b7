-- What is wrong with a list of tokens: where it stops being of a form, or where its brackets are nested too deep.
use Rattle.std.specs.Prelude.{ℕ, ◌+◌, ◌-◌, List, length, take}
use Rattle.rb_grammar.specs.declared.nesting.Nesting.{Nesting}
use Rattle.rb_grammar.specs.Forms.{Form, Grammar, Fits, Begins, StopsAt}
use Rattle.rb_grammar.specs.Brackets.{StaysWithin, IsFirstTooDeep}

module _ {T N K : Type 0} (G : Grammar T N K) (nesting : K → Nesting) (most : ℕ) (f : Form T N) where
  -- it is of the form, and no bracket is nested too deep
  pub record IsGood (ts : List K) : Type 0 where
    pub fits : Fits G f ts
    pub within : StaysWithin nesting most ts

  -- it stops being of the form before what is left, and no bracket before is nested too deep
  pub record IsWrongAt (ts left : List K) : Type 0 where
    pub stops : StopsAt G f ts left
    pub within : StaysWithin nesting most (take (length ts - length left) ts)

  -- the token at this index is the first bracket that is nested too deep, and the list up to and with it begins the form
  pub record IsTooDeepAt (ts : List K) (i : ℕ) : Type 0 where
    pub first : IsFirstTooDeep nesting most ts i
    pub begins : Begins G f (take (i + 1) ts)

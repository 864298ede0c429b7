-- What a module is judged to be.
use Rattle.std.specs.Prelude.{Option, Some, None, List}
use Rattle.rb_grammar.specs.Spelling.{At}
use Rattle.v_design.specs.Lexemes.{Token}
use Rattle.v_design.specs.Tree.{Tree}
use Rattle.v_design.specs.WellFormed.{IsWellFormed}
use Rattle.v_syntax.specs.Failing.{FailsIn}
use Rattle.v_syntax.specs.declared.error.VError.{VError}

-- the tree is well-formed, or has this first problem
abbrev pub Judged : Tree → List (At Token) → Option VError → Type 0
Judged t ts None = IsWellFormed t
Judged t ts (Some e) = FailsIn t ts e

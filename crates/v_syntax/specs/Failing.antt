-- Which bytes are no well-formed module, why, and where.
use Rattle.std.specs.Prelude.{◌≡◌, ℕ, Option, None, List, [], ◌∷◌, length}
use Rattle.rb_grammar.specs.Forms.{Non, Begins}
use Rattle.rb_grammar.specs.Brackets.{StaysWithin}
use Rattle.rb_grammar.specs.Judging.{IsWrongAt, IsTooDeepAt}
use Rattle.rb_grammar.specs.Spelling.{At, Spells}
use Rattle.v_design.specs.Lexemes.{Token, verilog}
use Rattle.v_design.specs.Tree.{Tree, IsTree}
use Rattle.v_design.specs.Tree as tree
use Rattle.rb_grammar.specs.Spelling as spelling
use Rattle.v_syntax.specs.Tokens.{place_at}
use Rattle.v_syntax.specs.Grammar.{grammar, nesting, most_open, Module}
use Rattle.v_syntax.specs.Scanned.{Scans}
use Rattle.v_syntax.specs.Faulty.{Problem, IsFirst}
use Rattle.v_syntax.specs.Faulty as problem
use Rattle.v_syntax.specs.declared.error.VError.{VError}
use Rattle.v_syntax.specs.declared.error.VError.TheVariants as error

-- the tokens begin a module, no bracket is nested too deep, and then no token begins
pub record IsMisspelledAt (bytes : List ℕ) (place : ℕ) : Type 0 where
  pub ts : List (At Token)
  pub scans : Scans bytes ts (Option.Some place)
  pub begins : Begins grammar (Non Module) ts
  pub within : StaysWithin nesting most_open ts

-- the place of the next token, or the end of a text of this size, where its tokens go on to it
abbrev pub IsPlaceOf : (size : ℕ) → (end : Option ℕ) → List (At Token) → ℕ → Type 0
IsPlaceOf size end [] place = (end ≡ None) × (place ≡ size)
IsPlaceOf size end (t ∷ ts) place = place ≡ t.place

-- the tokens stop being a module
pub record IsUnexpectedAt (bytes : List ℕ) (place : ℕ) : Type 0 where
  pub ts : List (At Token)
  pub left : List (At Token)
  pub end : Option ℕ
  pub scans : Scans bytes ts end
  pub wrong : IsWrongAt grammar nesting most_open (Non Module) ts left
  pub at : IsPlaceOf (length bytes) end left place

-- a bracket is nested too deep
pub record IsTooDeepIn (bytes : List ℕ) (place : ℕ) : Type 0 where
  pub ts : List (At Token)
  pub end : Option ℕ
  pub number : ℕ
  pub scans : Scans bytes ts end
  pub deep : IsTooDeepAt grammar nesting most_open (Non Module) ts number
  pub at : place ≡ place_at ts number

-- the bytes are a module tree, and this is its first problem
pub record HasProblemAt (bytes : List ℕ) (p : Problem) (place : ℕ) : Type 0 where
  pub t : Tree
  pub ts : List (At Token)
  pub is_tree : IsTree bytes t
  pub spelled : Spells verilog bytes ts
  pub tokens : spelling.tokens_of ts ≡ tree.tokens_of t
  pub first : IsFirst t ts p place

-- why the bytes are no well-formed module
abbrev pub Fails : List ℕ → VError → Type 0
Fails bytes (error.Spelling p) = IsMisspelledAt bytes p.0
Fails bytes (error.Syntax p) = IsUnexpectedAt bytes p.0
Fails bytes (error.TooDeep p) = IsTooDeepIn bytes p.0
Fails bytes (error.Twice p) = HasProblemAt bytes problem.Twice p.0
Fails bytes (error.Undeclared p) = HasProblemAt bytes problem.Undeclared p.0
Fails bytes (error.Driver p) = HasProblemAt bytes problem.Driver p.0
Fails bytes (error.Width p) = HasProblemAt bytes problem.Width p.0
Fails bytes (error.Loop p) = HasProblemAt bytes problem.Loop p.0
Fails bytes error.NoMemory = ⊥

-- the problem of a tree that an error names
abbrev pub FailsIn : Tree → List (At Token) → VError → Type 0
FailsIn t ts (error.Twice p) = IsFirst t ts problem.Twice p.0
FailsIn t ts (error.Undeclared p) = IsFirst t ts problem.Undeclared p.0
FailsIn t ts (error.Driver p) = IsFirst t ts problem.Driver p.0
FailsIn t ts (error.Width p) = IsFirst t ts problem.Width p.0
FailsIn t ts (error.Loop p) = IsFirst t ts problem.Loop p.0
FailsIn t ts _ = ⊥

-- What is wrong with a module tree that is not well-formed, and where (this project's rules).
use Rattle.std.specs.Prelude.{◌≡◌, ℕ, ◌+◌, ◌<◌, ◌≤◌, Bool, false, ◌&&◌, IsTrue, Some, List, [], ◌∷◌, take, slice_get, slice_index}
use Rattle.std.specs.Str.{bytes_eq}
use Rattle.std.specs.List.{list_any, flat_map}
use Rattle.rb_grammar.specs.Spelling.{At}
use Rattle.v_design.specs.Lexemes.{Token, Name, among}
use Rattle.v_design.specs.Expr.{nets_of}
use Rattle.v_design.specs.Tree.{Tree, Term, Statement, Assign, Clocked, Resettable}
use Rattle.v_design.specs.Design.{module_of, widths, expr_of}
use Rattle.v_design.specs.WellFormed.{Net, Given, same_kind, nets, names, drives_well, fits_well}
use Rattle.v_syntax.specs.Syntax.{declared_places, statement_places, statements_from}

-- the kinds of problems, in the order in which they are judged
pub data Problem : Type 0 where
  Twice Undeclared Driver Width Loop : Problem

abbrev pub turn : Problem → ℕ
turn Twice = 0
turn Undeclared = 1
turn Driver = 2
turn Width = 3
turn Loop = 4

-- the statement assigns the net, and reads the other
abbrev pub feeds : (from to : List ℕ) → Statement → Bool
feeds from to (Assign x e) = bytes_eq x to && among (nets_of (expr_of e)) from
feeds from to (Clocked c x e) = false
feeds from to (Resettable c low reset negated test x width value again e) = false

-- the nets that a statement drives: a block with a reset those of both its branches
abbrev pub driven_by : Statement → List (List ℕ)
driven_by (Assign to e) = to ∷ []
driven_by (Clocked c to e) = to ∷ []
driven_by (Resettable c low reset negated test to width value again e) = to ∷ again ∷ []

abbrev pub all_driven : List Statement → List (List ℕ)
all_driven ss = flat_map driven_by ss

-- from the net one can go on for ever, each time from a net to one that stands in the expression of its assignment
pub record GoesOn (ss : List Statement) (net : List ℕ) : Type 0 where
  pub path : ℕ → List ℕ
  pub begins : path 0 ≡ net
  pub step : (i : ℕ) → IsTrue (list_any (feeds (path (i + 1)) (path i)) ss)

-- where the declared name of this number stands, and where the statement of this number begins
abbrev pub name_place : Tree → List (At Token) → ℕ → ℕ
name_place t ts i = slice_index (declared_places t ts) i

abbrev pub statement_place : Tree → List (At Token) → ℕ → ℕ
statement_place t ts i = slice_index (statement_places t ts) i

-- The tree of these tokens has a problem at a place.
pub data Faulty (t : Tree) (ts : List (At Token)) : Problem → ℕ → Type 0 where
  -- a name is declared before
  twice : (i : ℕ) (n : List ℕ) → slice_get (names (nets t)) i ≡ Some n → IsTrue (among (take i (names (nets t))) n) → Faulty t ts Twice (name_place t ts i)
  -- a name in a statement is not declared
  undeclared : (k : ℕ) (a : At Token) (n : List ℕ) → statements_from t ≤ k → slice_get ts k ≡ Some a → a.token ≡ Name n → among (names (nets t)) n ≡ false → Faulty t ts Undeclared a.place
  -- a statement drives what it may not, or reads the clock
  drives_badly : (i : ℕ) (s : Statement) → slice_get t.stmts i ≡ Some s → drives_well (nets t) s ≡ false → Faulty t ts Driver (statement_place t ts i)
  -- a net has a driver before
  second_driver : (i : ℕ) (s : Statement) → slice_get t.stmts i ≡ Some s → IsTrue (list_any (among (all_driven (take i t.stmts))) (driven_by s)) → Faulty t ts Driver (statement_place t ts i)
  -- a net that is no input has no driver
  no_driver : (i : ℕ) (n : Net) → slice_get (nets t) i ≡ Some n → same_kind n.kind Given ≡ false → among (all_driven t.stmts) n.name ≡ false → Faulty t ts Driver (name_place t ts i)
  -- widths do not agree
  wrong_width : (i : ℕ) (s : Statement) → slice_get t.stmts i ≡ Some s → fits_well (widths (module_of t)) s ≡ false → Faulty t ts Width (statement_place t ts i)
  -- from the net of an assignment one can go on for ever
  loop : (i : ℕ) (to : List ℕ) (e : Term) → slice_get t.stmts i ≡ Some (Assign to e) → GoesOn t.stmts to → Faulty t ts Loop (statement_place t ts i)

-- the least place of the problem that is judged first
pub record IsFirst (t : Tree) (ts : List (At Token)) (p : Problem) (place : ℕ) : Type 0 where
  pub at : Faulty t ts p place
  pub first : (q : Problem) (k : ℕ) → turn q < turn p → Faulty t ts q k → ⊥
  pub least : (k : ℕ) → Faulty t ts p k → place ≤ k

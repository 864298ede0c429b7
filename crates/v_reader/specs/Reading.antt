-- When a design is what bytes say.
use Rattle.std.specs.Prelude.{◌≡◌, ℕ, Option, List, map}
use Rattle.std.specs.Option.{option_map}
use Rattle.rb_grammar.specs.Spelling.{At, Spells}
use Rattle.v_design.specs.Lexemes.{Token, verilog}
use Rattle.v_design.specs.Tree.{Tree, IsTree}
use Rattle.v_design.specs.WellFormed.{IsWellFormed}
use Rattle.v_design.specs.Design.{module_of}
use Rattle.v_design.specs.Seen.{module_seen}
use Rattle.v_design.specs.declared.design.Design.{Design}
use Rattle.v_lexer.specs.declared.Scanned.{Scanned}
use Rattle.v_syntax.specs.declared.error.VError.{VError}
use Rattle.v_syntax.specs.declared.error.VError.TheVariants as error
use Rattle.v_syntax.specs.Syntax.{statement_places}

-- where no token begins, if the text has such a place
abbrev pub fault_place : Scanned → Option ℕ
fault_place s = option_map (λ f. f.place.0) s.fault

-- the place of an error
abbrev pub place_number : VError → ℕ
place_number (error.Spelling p) = p.0
place_number (error.Syntax p) = p.0
place_number (error.TooDeep p) = p.0
place_number (error.Twice p) = p.0
place_number (error.Undeclared p) = p.0
place_number (error.Driver p) = p.0
place_number (error.Width p) = p.0
place_number (error.Loop p) = p.0
place_number error.NoMemory = 0

-- the bytes are a well-formed module tree, the design is its module, and its statements stand where they begin
pub record IsDesign (bytes : List ℕ) (d : Design) : Type 0 where
  pub tree : Tree
  pub ts : List (At Token)
  pub is_tree : IsTree bytes tree
  pub well_formed : IsWellFormed tree
  pub is : module_seen d ≡ module_of tree
  pub spelled : Spells verilog bytes ts
  pub places : map (λ s. s.place.0) d.stmts.items ≡ statement_places tree ts

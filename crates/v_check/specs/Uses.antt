-- The nets that the statements of a module name, by number.
use Rattle.std.specs.Prelude.{◌≡◌, ℕ, List, map}
use Rattle.v_design.specs.Expr.{nets_of}
use Rattle.v_design.specs.Seen.{expr_seen}
use Rattle.v_design.specs.declared.design.Stmt.{Stmt}
use Rattle.v_check.specs.declared.widths.Uses.{Uses}

-- the numbers of the nets that a statement's expression reads
abbrev pub stmt_reads : (number : List ℕ → ℕ) → Stmt → List ℕ
stmt_reads number s = map number (nets_of (expr_seen s.expr))

-- these are the numbers of the nets that statements drive and read
pub record AreUses (number : List ℕ → ℕ) (uses : Uses) (stmts : List Stmt) : Type 0 where
  pub targets : uses.targets.items ≡ map (λ s. number s.to) stmts
  pub reads : uses.reads ≡ map (stmt_reads number) stmts

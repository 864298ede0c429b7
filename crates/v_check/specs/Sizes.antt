-- The widths of the statements of a module that was parsed.
use Rattle.std.specs.Prelude.{◌≡◌, ℕ, ◌+◌, nat_le, Bool, true, false, ◌&&◌, ◌==◌, if◌then◌else◌, Option, Some, None, List, map, slice_get}
use Rattle.v_design.specs.Expr.{Expr, Widths, is_sized, width_of}
use Rattle.v_design.specs.Design.{Step, Reset}
use Rattle.v_design.specs.Seen.{step_seen}
use Rattle.v_design.specs.declared.design.Stmt.{Stmt}

-- the width of an expression, where the widths in it agree
abbrev pub sized_width : Widths → Expr → Option ℕ
sized_width ws e = if is_sized ws e then Some (width_of ws e) else None

-- the width of two that are concatenated, which is at most 128
abbrev pub joined : Option ℕ → Option ℕ → Option ℕ
joined None o = None
joined (Some w) None = None
joined (Some w) (Some v) = if nat_le (w + v) 128 then Some (w + v) else None

-- a reset's constant has this width
abbrev pub reset_fits : ℕ → Option Reset → Bool
reset_fits w None = true
reset_fits w (Some r) = w == r.width

-- both sides of a statement have one width, and so has a reset's constant
abbrev pub step_fits : Widths → Step → Bool
step_fits ws s = is_sized ws s.expr && ws s.to == width_of ws s.expr && reset_fits (ws s.to) s.reset

-- the places of statements
abbrev pub stmt_places : List Stmt → List ℕ
stmt_places stmts = map (λ s. s.place.0) stmts

-- the widths of the statement of this number do not agree
abbrev pub IsMisfit : Widths → List Stmt → ℕ → Type 0
IsMisfit ws stmts i = (s : Stmt) × (slice_get stmts i ≡ Some s) × (step_fits ws (step_seen s) ≡ false)

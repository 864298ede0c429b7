-- A design of the program as a module of the definitions.
use Rattle.std.specs.Prelude.{map, Option, Some, None}
use Rattle.v_design.specs.Expr.{Expr, Exprs, Net, Bits, Const, Cat, One, Two, Pick, none, more}
use Rattle.v_design.specs.Design.{Module, Step, Reset}
use Rattle.v_design.specs.declared.design.VExpr.{VExpr, Row_of-VExpr, end_of-VExpr, more_of-VExpr}
use Rattle.v_design.specs.declared.design.VExpr as declared
use Rattle.v_design.specs.declared.design.VReset.{VReset}
use Rattle.v_design.specs.declared.design.Stmt.{Stmt}
use Rattle.v_design.specs.declared.design.Design.{Design}

abbrev mutual
  -- an expression
  pub expr_seen : VExpr → Expr
  expr_seen (declared.Net n) = Net n
  expr_seen (declared.Bits n hi lo) = Bits n hi lo
  expr_seen (declared.Const w v) = Const w v
  expr_seen (declared.Cat' shape all) = Cat (exprs_seen all)
  expr_seen (declared.One' op p a) = One op (expr_seen a)
  expr_seen (declared.Two' op p a q b) = Two op (expr_seen a) (expr_seen b)
  expr_seen (declared.Pick' p c q a r b) = Pick (expr_seen c) (expr_seen a) (expr_seen b)

  pub exprs_seen : {m : _} → Row_of-VExpr m → Exprs
  exprs_seen end_of-VExpr = none
  exprs_seen (more_of-VExpr e es) = more (expr_seen e) (exprs_seen es)

-- a reset
abbrev pub reset_seen : Option VReset → Option Reset
reset_seen None = None
reset_seen (Some r) = Some (record { pin = r.pin; low = r.low; width = r.width; value = r.value })

-- a statement, apart from its place
abbrev pub step_seen : Stmt → Step
step_seen s = record { to = s.to; clocked = s.clocked; reset = reset_seen s.reset; expr = expr_seen s.expr }

-- a design as the module that it is
abbrev pub module_seen : Design → Module
module_seen d = record { name = d.name; ports = d.ports.items; decls = d.decls.items; steps = map step_seen d.stmts.items }

-- The design of what was parsed.
use Rattle.std.specs.Prelude.{◌≡◌}
use Rattle.v_design.specs.declared.design.Design.{Design}
use Rattle.v_syntax.specs.declared.parsed.Parsed.{Parsed}

-- the design has the parts
pub record IsMadeOf (x : Parsed) (d : Design) : Type 0 where
  pub name : d.name ≡ x.name.now
  pub ports : d.ports.items ≡ x.ports.items
  pub decls : d.decls.items ≡ x.decls.items
  pub stmts : d.stmts.items ≡ x.stmts.items

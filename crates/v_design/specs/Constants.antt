-- Constants of 1 to 128 bits, within their widths (IEEE 1364-2005, clause 3.5.1).
use Rattle.std.specs.Prelude.{◌<◌, ◌≤◌, ◌^◌, Option, Some, None}
use Rattle.v_design.specs.Expr.{Expr, Exprs, Net, Bits, Const, Cat, One, Two, Pick, none, more}
use Rattle.v_design.specs.Design.{Reset}

abbrev mutual
  -- each constant in an expression has at most 128 bits, and a value within its width
  pub ConstantsFit : Expr → Type 0
  ConstantsFit (Net n) = Unit {0}
  ConstantsFit (Bits n hi lo) = Unit {0}
  ConstantsFit (Const w v) = (w ≤ 128) × (v < 2 ^ w)
  ConstantsFit (Cat es) = EachConstantFits es
  ConstantsFit (One op e) = ConstantsFit e
  ConstantsFit (Two op a b) = ConstantsFit a × ConstantsFit b
  ConstantsFit (Pick c a b) = ConstantsFit c × ConstantsFit a × ConstantsFit b

  pub EachConstantFits : Exprs → Type 0
  EachConstantFits none = Unit {0}
  EachConstantFits (more e es) = ConstantsFit e × EachConstantFits es

-- a reset's constant is within its width
abbrev pub ResetFits : Option Reset → Type 0
ResetFits None = Unit {0}
ResetFits (Some r) = r.value < 2 ^ r.width

-- What an expression is, apart from how it is spelled, and its value (IEEE 1364-2005, clause 5).
use Rattle.std.specs.Prelude.{ℕ, ◌+◌, ◌*◌, ◌-◌, ◌%◌, ◌^◌, Bool, true, not, ◌&&◌, ◌==◌, nat_le, nat_lt, if◌then◌else◌, List, [], ◌∷◌, ◌++◌, bit_and, bit_or, bit_xor, count_ones}
use Rattle.rb_base.specs.Bits.{part}
use Rattle.v_design.specs.declared.design.VOne.{VOne}
use Rattle.v_design.specs.declared.design.VOne.TheVariants.{Not, All, Any, Odd}
use Rattle.v_design.specs.declared.design.VTwo.{VTwo}
use Rattle.v_design.specs.declared.design.VTwo.TheVariants.{Add, Sub, And, Or, Xor, Eq, Ne, Lt, Le, Gt, Ge}

mutual
  -- a net, its bits hi to lo, a constant of a width and a value, a concatenation, an operator before its
  -- operand, one between its operands, and a conditional
  pub data Expr : Type 0 where
    Net : List ℕ → Expr
    Bits : List ℕ → ℕ → ℕ → Expr
    Const : ℕ → ℕ → Expr
    Cat : Exprs → Expr
    One : VOne → Expr → Expr
    Two : VTwo → Expr → Expr → Expr
    Pick : Expr → Expr → Expr → Expr

  -- the parts of a concatenation
  pub data Exprs : Type 0 where
    none : Exprs
    more : Expr → Exprs → Exprs

abbrev mutual
  -- the nets that an expression names
  pub nets_of : Expr → List (List ℕ)
  nets_of (Net n) = n ∷ []
  nets_of (Bits n hi lo) = n ∷ []
  nets_of (Const w v) = []
  nets_of (Cat es) = nets_of_each es
  nets_of (One op e) = nets_of e
  nets_of (Two op a b) = nets_of a ++ nets_of b
  nets_of (Pick c a b) = nets_of c ++ (nets_of a ++ nets_of b)

  pub nets_of_each : Exprs → List (List ℕ)
  nets_of_each none = []
  nets_of_each (more e es) = nets_of e ++ nets_of_each es

-- a width by name
abbrev pub Widths : Type 0
Widths = List ℕ → ℕ

-- the width of a result over one operand of width w (clause 5.4.1)
abbrev pub width_under : VOne → ℕ → ℕ
width_under Not w = w
width_under All w = 1
width_under Any w = 1
width_under Odd w = 1

-- the width of a result over two operands of width w (clause 5.4.1)
abbrev pub width_over : VTwo → ℕ → ℕ
width_over Add w = w
width_over Sub w = w
width_over And w = w
width_over Or w = w
width_over Xor w = w
width_over Eq w = 1
width_over Ne w = 1
width_over Lt w = 1
width_over Le w = 1
width_over Gt w = 1
width_over Ge w = 1

abbrev mutual
  -- the width of an expression (clause 5.4.1)
  pub width_of : Widths → Expr → ℕ
  width_of ws (Net n) = ws n
  width_of ws (Bits n hi lo) = hi - lo + 1
  width_of ws (Const w v) = w
  width_of ws (Cat es) = width_of_all ws es
  width_of ws (One op e) = width_under op (width_of ws e)
  width_of ws (Two op a b) = width_over op (width_of ws a)
  width_of ws (Pick c a b) = width_of ws a

  pub width_of_all : Widths → Exprs → ℕ
  width_of_all ws none = 0
  width_of_all ws (more e es) = width_of ws e + width_of_all ws es

abbrev mutual
  -- Widths agree in the whole expression (this project's rule: nothing is extended). The bits of a select are
  -- in the range of a net wider than 1, a concatenation has at most 128 bits, the operands of an operator are
  -- equally wide, a condition has one bit, and its branches are equally wide.
  pub is_sized : Widths → Expr → Bool
  is_sized ws (Net n) = true
  is_sized ws (Bits n hi lo) = nat_le lo hi && nat_lt hi (ws n) && nat_lt 1 (ws n)
  is_sized ws (Const w v) = true
  is_sized ws (Cat es) = are_sized ws es && nat_le (width_of_all ws es) 128
  is_sized ws (One op e) = is_sized ws e
  is_sized ws (Two op a b) = is_sized ws a && is_sized ws b && width_of ws a == width_of ws b
  is_sized ws (Pick c a b) =
      is_sized ws c && is_sized ws a && is_sized ws b && width_of ws c == 1 && width_of ws a == width_of ws b

  pub are_sized : Widths → Exprs → Bool
  are_sized ws none = true
  are_sized ws (more e es) = is_sized ws e && are_sized ws es

-- a number by name
abbrev pub Values : Type 0
Values = List ℕ → ℕ

-- 1 for true, 0 for false
abbrev pub bit_of : Bool → ℕ
bit_of b = if b then 1 else 0

-- an operator before an operand of width w (clauses 5.1.10 and 5.1.11)
abbrev pub value_under : VOne → ℕ → ℕ → ℕ
value_under Not w a = 2 ^ w - 1 - a
value_under All w a = bit_of (a == 2 ^ w - 1)
value_under Any w a = bit_of (nat_lt 0 a)
value_under Odd w a = count_ones a % 2

-- an operator between operands of width w (clauses 5.1.5, 5.1.7, 5.1.8 and 5.1.10)
abbrev pub value_over : VTwo → ℕ → ℕ → ℕ → ℕ
value_over Add w a b = (a + b) % 2 ^ w
value_over Sub w a b = (a + 2 ^ w - b) % 2 ^ w
value_over And w a b = bit_and a b
value_over Or w a b = bit_or a b
value_over Xor w a b = bit_xor a b
value_over Eq w a b = bit_of (a == b)
value_over Ne w a b = bit_of (not (a == b))
value_over Lt w a b = bit_of (nat_lt a b)
value_over Le w a b = bit_of (nat_le a b)
value_over Gt w a b = bit_of (nat_lt b a)
value_over Ge w a b = bit_of (nat_le b a)

abbrev mutual
  -- the value of an expression where each net has the value v of its name (clauses 5.1.13, 5.1.14 and 5.2.1)
  pub value_of : Widths → Values → Expr → ℕ
  value_of ws v (Net n) = v n
  value_of ws v (Bits n hi lo) = part (v n) hi lo
  value_of ws v (Const w x) = x
  value_of ws v (Cat es) = value_of_all ws v es
  value_of ws v (One op e) = value_under op (width_of ws e) (value_of ws v e)
  value_of ws v (Two op a b) = value_over op (width_of ws a) (value_of ws v a) (value_of ws v b)
  value_of ws v (Pick c a b) = if value_of ws v c == 0 then value_of ws v b else value_of ws v a

  pub value_of_all : Widths → Values → Exprs → ℕ
  value_of_all ws v none = 0
  value_of_all ws v (more e es) = value_of ws v e * 2 ^ width_of_all ws es + value_of_all ws v es

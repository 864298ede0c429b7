-- Widths and values of nodes.
use Rattle.std.specs.Str.{bytes_eq}
use Rattle.std.specs.Prelude.{ℕ, ◌+◌, ◌*◌, ◌-◌, ◌%◌, ◌^◌, ◌==◌, nat_lt, Bool, if◌then◌else◌, List, [], ◌∷◌, ◌++◌, slice_index, bit_and, bit_or, bit_xor, count_ones}
use Rattle.rb_base.specs.Bits.{part}
use Rattle.rtl_net.specs.Names.{clock}
use Rattle.rtl_net.specs.declared.node.Id.{Id}
use Rattle.rtl_net.specs.declared.node.NetReset.{NetReset}
use Rattle.rtl_net.specs.declared.node.NetReset.TheVariants as resets
use Rattle.rtl_net.specs.declared.node.NetExpr.{NetExpr}
use Rattle.rtl_net.specs.declared.node.NetExpr.TheVariants.{Const, Part, Cat, Not, All, Any, Odd, Add, Sub, And, Or, Xor, Eq, Lt, Pick}
use Rattle.rtl_net.specs.declared.node.NetNode.{NetNode}
use Rattle.rtl_net.specs.declared.node.NetNode.TheVariants.{Input, Register, Wire}

-- a number by name
abbrev pub Values : Type 0
Values = List ℕ → ℕ

-- What is seen at one edge of the clock: the inputs and the contents of the registers by name, the nodes by number,
-- the outputs by name, and the contents of the registers after the edge.
pub record At : Type 0 where
  pub ins : Values
  pub kept : Values
  pub node : ℕ → ℕ
  pub outs : Values
  pub after : Values

abbrev pub bit_of : Bool → ℕ
bit_of b = if b then 1 else 0

-- the width of an expression over nodes of these widths
abbrev pub expr_width : List ℕ → NetExpr → ℕ
expr_width ws (Const w x) = w
expr_width ws (Part a hi lo) = hi - lo + 1
expr_width ws (Cat a b) = slice_index ws a.0 + slice_index ws b.0
expr_width ws (Not a) = slice_index ws a.0
expr_width ws (All a) = 1
expr_width ws (Any a) = 1
expr_width ws (Odd a) = 1
expr_width ws (Add a b) = slice_index ws a.0
expr_width ws (Sub a b) = slice_index ws a.0
expr_width ws (And a b) = slice_index ws a.0
expr_width ws (Or a b) = slice_index ws a.0
expr_width ws (Xor a b) = slice_index ws a.0
expr_width ws (Eq a b) = 1
expr_width ws (Lt a b) = 1
expr_width ws (Pick c a b) = slice_index ws a.0

-- the value of an expression over nodes of these widths and values
abbrev pub expr_value : List ℕ → (ℕ → ℕ) → NetExpr → ℕ
expr_value ws v (Const w x) = x
expr_value ws v (Part a hi lo) = part (v a.0) hi lo
expr_value ws v (Cat a b) = v a.0 * 2 ^ slice_index ws b.0 + v b.0
expr_value ws v (Not a) = 2 ^ slice_index ws a.0 - 1 - v a.0
expr_value ws v (All a) = bit_of (v a.0 == 2 ^ slice_index ws a.0 - 1)
expr_value ws v (Any a) = bit_of (nat_lt 0 (v a.0))
expr_value ws v (Odd a) = count_ones (v a.0) % 2
expr_value ws v (Add a b) = (v a.0 + v b.0) % 2 ^ slice_index ws a.0
expr_value ws v (Sub a b) = (v a.0 + 2 ^ slice_index ws a.0 - v b.0) % 2 ^ slice_index ws a.0
expr_value ws v (And a b) = bit_and (v a.0) (v b.0)
expr_value ws v (Or a b) = bit_or (v a.0) (v b.0)
expr_value ws v (Xor a b) = bit_xor (v a.0) (v b.0)
expr_value ws v (Eq a b) = bit_of (v a.0 == v b.0)
expr_value ws v (Lt a b) = bit_of (nat_lt (v a.0) (v b.0))
expr_value ws v (Pick c a b) = if v c.0 == 0 then v b.0 else v a.0

-- the nodes that an expression names
abbrev pub operands : NetExpr → List Id
operands (Const w x) = []
operands (Part a hi lo) = a ∷ []
operands (Cat a b) = a ∷ b ∷ []
operands (Not a) = a ∷ []
operands (All a) = a ∷ []
operands (Any a) = a ∷ []
operands (Odd a) = a ∷ []
operands (Add a b) = a ∷ b ∷ []
operands (Sub a b) = a ∷ b ∷ []
operands (And a b) = a ∷ b ∷ []
operands (Or a b) = a ∷ b ∷ []
operands (Xor a b) = a ∷ b ∷ []
operands (Eq a b) = a ∷ b ∷ []
operands (Lt a b) = a ∷ b ∷ []
operands (Pick c a b) = c ∷ a ∷ b ∷ []

-- the width of a node after nodes of the widths ws; the clock, which no expression names, counts as 0 bits
abbrev pub node_width : List ℕ → NetNode → ℕ
node_width ws (Input name w) = if bytes_eq name clock then 0 else w
node_width ws (Register name w reset next) = w
node_width ws (Wire e) = expr_width ws e

-- the widths of these nodes, after nodes of the widths ws
abbrev pub widths_after : List ℕ → List NetNode → List ℕ
widths_after ws [] = ws
widths_after ws (n ∷ ns) = widths_after (ws ++ node_width ws n ∷ []) ns

-- a value, or the constant of an asserted reset
abbrev pub under : (ℕ → ℕ) → NetReset → ℕ → ℕ
under v resets.None x = x
under v (resets.Async pin low value) x = if (if low then v pin.0 == 0 else v pin.0 == 1) then value else x

-- what a node's value is: that of its input or expression, and of a register what it contains
abbrev pub node_value : At → List ℕ → NetNode → ℕ
node_value v ws (Input name w) = v.ins name
node_value v ws (Register name w reset next) = under v.node reset (v.kept name)
node_value v ws (Wire e) = expr_value ws v.node e

-- Expressions over constants.
use Rattle.std.specs.List.{list_all}
use Rattle.std.specs.Prelude.{ℕ, Bool, List, Option, Some, None, is_some, unwrap_or, option_and_then, slice_get}
use Rattle.rtl_net.specs.Value.{operands}
use Rattle.rtl_net.specs.declared.node.NetExpr.{NetExpr}
use Rattle.rtl_net.specs.declared.node.NetExpr.TheVariants.{Const}
use Rattle.rtl_net.specs.declared.node.NetNode.{NetNode}
use Rattle.rtl_net.specs.declared.node.NetNode.TheVariants.{Wire}

abbrev pub constant_of : NetExpr → Option ℕ
constant_of (Const w x) = Some x
constant_of _ = None

-- the value of a node that is a constant
abbrev pub constant : NetNode → Option ℕ
constant (Wire e) = constant_of e
constant _ = None

-- the value of the node of number i, where that is a constant
abbrev pub constant_at : List NetNode → ℕ → Option ℕ
constant_at ns i = option_and_then constant (slice_get ns i)

-- all operands are constants
abbrev pub is_constant : List NetNode → NetExpr → Bool
is_constant ns e = list_all (λ a. is_some (constant_at ns a.0)) (operands e)

-- the constants by their nodes' numbers
abbrev pub constant_values : List NetNode → ℕ → ℕ
constant_values ns i = unwrap_or (constant_at ns i) 0

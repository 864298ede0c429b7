-- What a call adds to a netlist's nodes.
use Rattle.std.specs.Prelude.{◌≡◌, ◌⊎◌, if◌then◌else◌, [], ◌∷◌, ◌++◌}
use Rattle.rtl_net.specs.Fold.{constant_values, is_constant}
use Rattle.rtl_net.specs.Net.{Net, widths}
use Rattle.rtl_net.specs.Value.{expr_value, expr_width}
use Rattle.rtl_net.specs.declared.node.NetExpr.{NetExpr}
use Rattle.rtl_net.specs.declared.node.NetExpr.TheVariants.{Const}
use Rattle.rtl_net.specs.declared.node.NetNode.{NetNode}
use Rattle.rtl_net.specs.declared.node.NetNode.TheVariants.{Wire}

-- the new nodes are the old ones and this one
abbrev pub AddsNode : Net → Net → NetNode → Type 0
AddsNode old new n = new.nodes ≡ old.nodes ++ n ∷ []

-- the nodes stand, or the new ones are the old ones and this wire
abbrev pub AddsWire : Net → Net → NetExpr → Type 0
AddsWire old new e = (new.nodes ≡ old.nodes) ⊎ AddsNode old new (Wire e)

-- the constant of an expression over constants, or else the expression
abbrev pub folded : Net → NetExpr → NetExpr
folded net e = if is_constant net.nodes e then Const (expr_width (widths net) e) (expr_value (widths net) (constant_values net.nodes) e) else e

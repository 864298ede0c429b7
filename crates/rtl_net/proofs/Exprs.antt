-- Expressions that are equal, and in order.
use Rattle.std.specs.BTreeMap.{is_at}
use Rattle.std.proofs.Common.{◌≡◌, true, rules, Decides}
use Rattle.rtl_net.specs.declared.node.NetExpr.{NetExpr}
use Rattle.rtl_net.specs.contracts.node.NetExprOrd.TheImpl.{cmp-value}
use Rattle.rtl_net.specs.contracts.node.NetExprPartialEq.TheImpl.{eq-value}

pub at_expr : (a b : NetExpr) → is_at (cmp-value.it a) b ≡ true → a ≡ b
at_expr a b = search rules

pub eq_expr : (a b : NetExpr) → Decides (eq-value.it a b) (a ≡ b)
eq_expr a b = search rules

use Rattle.std.proofs.Common.{◌≡◌, Bool, true, false, if◌then◌else◌, refl, subst}
use Rattle.rtl_net.specs.Adds.{AddsWire, folded}
use Rattle.rtl_net.specs.Fold.{is_constant}
use Rattle.rtl_net.specs.declared.node.NetExpr.{NetExpr}
use Rattle.rtl_net.proofs.net.Netlist.fold.Goals as goal

-- what is chosen by a test
chosen : (b : Bool) (x y e : NetExpr) → (b ≡ true → e ≡ x) → (b ≡ false → e ≡ y) → e ≡ (if b then x else y)
chosen true x y e p q = p refl
chosen false x y e p q = q refl

pub returns-clause-nodes : goal.returns-clause-nodes
returns-clause-nodes c =
    let net = c.args.self.now in
    let same : c.folded-folded.result ≡ folded net c.args.expr = chosen (is_constant net.nodes c.args.expr) _ _ c.folded-folded.result c.folded-folded.ensures.constant c.folded-folded.ensures.same in
    subst (AddsWire net c.wire.new.self) same c.in_ok-id.ensures.nodes

use Rattle.std.proofs.Common.{◌≡◌, ◌∙◌, refl, sym, ap, subst, [], Option, Some, None, IsSome}
use Rattle.rtl_net.specs.Value.{widths_after, expr_width}
use Rattle.rtl_net.specs.Shared.{AreWires, wire_under}
use Rattle.rtl_net.specs.declared.node.Id.{Id}
use Rattle.rtl_net.proofs.NodeLists.{widths-pushed}
use Rattle.rtl_net.proofs.WireLists.{wires_same, wires_wire}
use Rattle.rtl_net.proofs.nodes.Nodes.wire.Goals as goal

pub invariant_of-self-2 : goal.invariant_of-self-2
invariant_of-self-2 c = by (wire_under c.self.inside.wires c.args.expr) refl
  where
    w : c.args.width ≡ expr_width (widths_after [] c.self.inside.nodes.items) c.args.expr
    w = rw c.self.view_is c.requires

    by : (o : Option Id) → wire_under c.self.inside.wires c.args.expr ≡ o → (c.wire.new.widths.items ≡ widths_after [] c.wire.new.nodes.items) × AreWires c.wire.new.wires c.wire.new.nodes.items
    by None q =
        let e = c.in_ok-id.ensures in (
          widths-pushed c.self.inside.nodes.items _ _ _ _ _ c.self.invariant.0 (e.widths q) w (e.nodes q),
          subst (AreWires c.wire.new.wires) (sym (e.nodes q)) (wires_wire c.self.inside.wires c.wire.new.wires c.self.inside.nodes.items c.args.expr c.in_ok-id.id c.self.invariant.1 (e.id q) (e.wires q)),
        )
    by (Some k) q =
        let e = c.in_ok-id.ensures in
        let known : IsSome (wire_under c.self.inside.wires c.args.expr) = subst IsSome (sym q) refl in (
          e.known_widths known ∙ c.self.invariant.0 ∙ sym (ap (widths_after []) (e.known_nodes known)),
          wires_same c.self.inside.wires c.wire.new.wires c.self.inside.nodes.items _ c.self.invariant.1 (e.known_wires known) (e.known_nodes known),
        )

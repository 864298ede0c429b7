use Rattle.std.proofs.Common.{◌≡◌, ◌∙◌, sym, ap, subst, [], slice_get, Some, None}
use Rattle.rtl_net.specs.Value.{widths_after}
use Rattle.rtl_net.specs.Shared.{AreWires}
use Rattle.rtl_net.specs.declared.node.NetNode.TheVariants.{Register}
use Rattle.rtl_net.proofs.NodeLists.{widths_after-set}
use Rattle.rtl_net.proofs.WireLists.{wires_tied}
use Rattle.rtl_net.proofs.nodes.Nodes.tie.Goals as goal

pub invariant_of-self : goal.invariant_of-self
invariant_of-self c =
    let h : slice_get c.self.inside.nodes.items c.args.reg.0 ≡ Some (Register c.requires.0 c.requires.1 c.requires.2 None) = rw c.self.view_is c.requires.3 in
    let e = c.tie_at.ensures _ _ _ h in (
      c.self.invariant.0 ∙ sym (ap (widths_after []) e ∙ widths_after-set _ _ _ (Some c.args.next) [] c.self.inside.nodes.items c.args.reg.0 h),
      subst (AreWires c.self.inside.wires) (sym e) (wires_tied _ _ _ (Some c.args.next) _ c.self.inside.nodes.items c.args.reg.0 h c.self.invariant.1),
    )

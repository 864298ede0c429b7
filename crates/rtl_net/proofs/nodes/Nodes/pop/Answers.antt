use Rattle.std.proofs.Common.{◌≡◌, ◌∙◌, sym, ap, subst, [], ◌++◌, ◌∷◌}
use Rattle.rtl_net.specs.Value.{widths_after}
use Rattle.rtl_net.specs.Shared.{AreWires}
use Rattle.rtl_net.proofs.NodeLists.{widths-popped}
use Rattle.rtl_net.proofs.WireLists.{wires_popped}
use Rattle.rtl_net.proofs.nodes.Nodes.pop.Goals as goal

pub invariant_of-self : goal.invariant_of-self
invariant_of-self c =
    let h : c.self.inside.nodes.items ≡ c.requires.0 ++ c.requires.1 ∷ [] = rw c.self.view_is c.requires.3 in
    let e : c.pop.new.nodes.items ≡ c.requires.0 = c.pop.ensures.nodes c.requires.0 c.requires.1 h in (
      widths-popped c.requires.0 _ _ c.requires.1 (c.self.invariant.0 ∙ ap (widths_after []) h) c.pop.ensures.widths ∙ ap (widths_after []) (sym e),
      subst (AreWires c.self.inside.wires) (sym e) (wires_popped c.requires.0 c.requires.1 c.requires.2 _ (subst (AreWires c.self.inside.wires) h c.self.invariant.1)),
    )

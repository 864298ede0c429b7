use Rattle.std.proofs.Common.{◌≡◌, []}
use Rattle.rtl_net.specs.Value.{widths_after, node_width}
use Rattle.rtl_net.proofs.NodeLists.{widths-pushed}
use Rattle.rtl_net.proofs.WireLists.{wires_leaf}
use Rattle.rtl_net.proofs.nodes.Nodes.push.Goals as goal

pub invariant_of-self-2 : goal.invariant_of-self-2
invariant_of-self-2 c =
    let w : c.args.width ≡ node_width (widths_after [] c.self.inside.nodes.items) c.args.node = rw c.self.view_is c.requires.width in (
      widths-pushed c.self.inside.nodes.items _ _ _ _ _ c.self.invariant.0 c.in_ok-id.ensures.widths w c.in_ok-id.ensures.nodes,
      wires_leaf c.self.inside.nodes.items c.args.node c.requires.leaf _ _ c.self.invariant.1 c.in_ok-id.ensures.nodes,
    )

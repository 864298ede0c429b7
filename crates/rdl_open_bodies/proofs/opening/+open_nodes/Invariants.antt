use Rattle.std.proofs.Common.{◌+◌, ◌*◌, flat_map, take}
use Rattle.rdl_values.specs.Instances.{with_below}
use Rattle.rdl_open_bodies.specs.Starts.{AreNodesOpen, CanOpenNodes}
use Rattle.rdl_open_bodies.proofs.opening.+open_nodes.Given as goal

abbrev pub decreases-open_node : goal.decreases-open_node
decreases-open_node l = l.levels * 2

abbrev pub decreases-open_nodes : goal.decreases-open_nodes
decreases-open_nodes l = l.levels * 2 + 1

abbrev pub invariant-open_nodes-loop-at : goal.invariant-open_nodes-loop-at
invariant-open_nodes-loop-at l = (can : CanOpenNodes l.elab l.initial.walk.bodies l.nodes l.starts l.levels) → AreNodesOpen l.elab l.initial.walk l.walk l.initial.spots.items l.spots.items (flat_map (with_below l.levels) (take l.at can.instances))

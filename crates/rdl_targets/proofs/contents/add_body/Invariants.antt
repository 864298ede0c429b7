use Rattle.std.proofs.Common.{take}
use Rattle.rdl_tree.specs.declared.node.Node.{out-Node}
use Rattle.rdl_targets.specs.Contents.{AddsNodes}
use Rattle.rdl_targets.proofs.contents.add_body.Given as goal

abbrev pub invariant-loop-child : goal.invariant-loop-child
invariant-loop-child l = AddsNodes (out-Node l.node).id (take l.child-index (out-Node l.node).children.now) l.initial.nodes.items l.nodes.items

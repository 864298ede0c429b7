use Rattle.std.proofs.Common.{List, filter, flat_map, take}
use Rattle.rdl_tree.specs.declared.node.Elab.{Elab}
use Rattle.rdl_values.specs.Instances.{Instance, children}
use Rattle.rdl_values.specs.Lineages.{lineages_of}
use Rattle.rdl_targets.specs.At.{AreAt}
use Rattle.rdl_targets.specs.Contents.{AreContents, passes}
use Rattle.rdl_targets.proofs.matching.matching.Given as goal

abbrev pub invariant-loop-node : goal.invariant-loop-node
invariant-loop-node l = (e : Elab) (ns : List Instance) → AreContents e l.contents → AreAt (lineages_of e) l.nodes ns
    → AreAt (lineages_of e) l.list.items (flat_map (λ n. filter (passes l.wanted l.name) (children n)) (take l.node-index ns))

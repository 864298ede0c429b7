use Rattle.std.proofs.Common.{◌≡◌, List}
use Rattle.std.specs.Option.{option_or}
use Rattle.rdl_tree.specs.declared.node.Elab.{Elab}
use Rattle.rdl_values.specs.Elaborated.{nodes_of}
use Rattle.rdl_values.specs.Elaboration.{IsClean}
use Rattle.rdl_values.specs.Instances.{Instance, children}
use Rattle.rdl_values.specs.Lineages.{lineages_of}
use Rattle.rdl_nodes.specs.Rows.{AreInside}
use Rattle.rdl_block_numbers.specs.Named.{Key, number_under}
use Rattle.rdl_block_numbers.specs.Numbers.{AreOwn}
use Rattle.rdl_block_numbers.proofs.Naming.{named-to}
use Rattle.rdl_block_numbers.proofs.fields.Names.add_all.Given as goal

abbrev pub invariant-loop-node : goal.invariant-loop-node
invariant-loop-node l = (e : Elab) (up : List Instance) (n : Instance) → IsClean e → AreOwn e l.own → AreInside (lineages_of e) up l.nodes l.nodes (children n)
    → (k : Key) → number_under l.self k ≡ option_or (number_under l.fn.self k) (named-to (nodes_of e) l.body n l.node-index k)

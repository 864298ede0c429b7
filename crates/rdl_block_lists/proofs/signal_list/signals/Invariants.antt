use Rattle.std.proofs.Common.{◌≡◌, filter, map, take}
use Rattle.rdl_tree.specs.declared.item.Kind.TheVariants as kinds
use Rattle.rdl_values.specs.Elaborated.{nodes_of}
use Rattle.rdl_layers.specs.Fields.{is_a}
use Rattle.rdl_rules.specs.Block.{signal_of}
use Rattle.rdl_block_lists.proofs.signal_list.signals.Given as goal

abbrev pub invariant-loop-at : goal.invariant-loop-at
invariant-loop-at l = l.items.items ≡ map signal_of (filter (is_a kinds.Signal) (take l.at (nodes_of l.elab)))

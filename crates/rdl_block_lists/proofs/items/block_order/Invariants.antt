use Rattle.std.proofs.Common.{◌≡◌, take}
use Rattle.rdl_values.specs.Lineages.{lineages_of}
use Rattle.rdl_block_laws.specs.Ordered.{in_turn}
use Rattle.rdl_block_lists.proofs.items.block_order.Given as goal

abbrev pub invariant-loop-number : goal.invariant-loop-number
invariant-loop-number l = l.list.items ≡ in_turn (lineages_of l.known.props.now) (take l.number-index l.order)

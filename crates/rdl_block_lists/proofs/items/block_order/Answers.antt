use Rattle.rdl_block_lists.proofs.Turned.{numbered, reads-at}
use Rattle.rdl_block_lists.proofs.items.block_order.Goals as goal

pub add_shown-requires-clause-number : goal.add_shown-requires-clause-number
add_shown-requires-clause-number c = numbered c.args.known.props.now c.args.order.now c.requires.order c.loop-number.number-index _ (reads-at c.args.order.now c.loop-number.number-index _ c.loop-number-test.true)

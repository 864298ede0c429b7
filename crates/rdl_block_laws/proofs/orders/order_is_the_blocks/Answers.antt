use Rattle.rdl_block_laws.proofs.After.{ordered}
use Rattle.rdl_block_laws.proofs.orders.order_is_the_blocks.Goals as goal

pub returns : goal.returns
returns c = λ e b ks clean bound none is order. ordered e b ks clean bound none is order

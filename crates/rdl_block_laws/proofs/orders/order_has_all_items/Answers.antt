use Rattle.rdl_block_laws.proofs.All.{all-once}
use Rattle.rdl_block_laws.proofs.orders.order_has_all_items.Goals as goal

pub returns : goal.returns
returns c = λ e b ks clean bound none is order. all-once e b ks clean bound none is order

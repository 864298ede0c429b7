use Rattle.rdl_block_numbers.proofs.InOrder.{fields-own}
use Rattle.rdl_block_numbers.proofs.laws.fields_in_order.Goals as goal

pub returns : goal.returns
returns c = λ wanted s. fields-own wanted s

use Rattle.gen_apb.proofs.Accessing.{has_address}
use Rattle.gen_apb.proofs.access.address.Goals as goal

pub returns-clause-address : goal.returns-clause-address
returns-clause-address c = has_address c.args.block.now c.args.net.now c.word_node.new.net c.args.pins c.in_ok-found.found c.requires.pins c.word_node.ensures.older c.in_ok-found.ensures.word

use Rattle.rtl_net.proofs.NameLists.{places_none}
use Rattle.rtl_net.proofs.ports.Ports.new.Goals as goal

pub invariant_of-result : goal.invariant_of-result
invariant_of-result c = rw c.new.ensures.items (places_none c.new-2.result c.new-2.ensures)

use Rattle.rdl_addr.proofs.Covers.{covers}
use Rattle.rdl_addr.proofs.laws.layout_covers.Goals as goal

pub returns : goal.returns
returns c = covers

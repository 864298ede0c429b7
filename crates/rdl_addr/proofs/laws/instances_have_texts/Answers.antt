use Rattle.rdl_addr.proofs.Using.{children-texts}
use Rattle.rdl_addr.proofs.laws.instances_have_texts.Goals as goal

pub returns : goal.returns
returns c = children-texts

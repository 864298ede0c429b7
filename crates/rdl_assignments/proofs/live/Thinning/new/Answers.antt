use Rattle.rdl_assignments.proofs.Finding.{thinning_new}
use Rattle.rdl_assignments.proofs.live.Thinning.new.Goals as goal

pub returns : goal.returns
returns c = λ of same v. thinning_new of same v _ c.new.ensures c.new-2.ensures.items

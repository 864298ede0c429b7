use Rattle.rdl_dynamic.proofs.Knowing.{nothing-known}
use Rattle.rdl_dynamic.proofs.known.Known.new.Goals as goal

pub returns : goal.returns
returns c = λ e rows b. nothing-known e c.args.node rows b _ (c.in_ok-new.ensures e) c.new-2.ensures c.new-3.ensures c.new-4.ensures

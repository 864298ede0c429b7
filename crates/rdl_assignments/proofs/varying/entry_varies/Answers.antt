use Rattle.rdl_assignments.proofs.SteadyEntries.{entry_alike}
use Rattle.rdl_assignments.proofs.varying.entry_varies.Goals as goal

pub returns : goal.returns
returns c = λ q v shown. entry_alike v c.args.entry.now (c.some_name.ensures q v shown)

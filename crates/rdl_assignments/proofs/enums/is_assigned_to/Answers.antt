use Rattle.std.proofs.Common.{◌∙◌, ap, not, sym}
use Rattle.rdl_assignments.proofs.Unassigned.{no_sets}
use Rattle.rdl_assignments.proofs.enums.is_assigned_to.Goals as goal

pub returns : goal.returns
returns c = λ q. no_sets c.args.entry.now (ap not (sym c.is_empty.ensures) ∙ q)

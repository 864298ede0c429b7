use Rattle.rdl_verdict.proofs.Parts.{second-refused}
use Rattle.rdl_verdict.proofs.phases.lead.Goals as goal

pub returns-in-Err-Faults-clause-error : goal.returns-in-Err-Faults-clause-error
returns-in-Err-Faults-clause-error c = second-refused c.args.elab.now _ c.requires.placed (rw c.in-Err-Faults.field-0-is at c.in-Err-Faults.ensures)

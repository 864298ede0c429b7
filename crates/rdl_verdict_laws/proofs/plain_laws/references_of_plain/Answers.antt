use Rattle.rdl_verdict_laws.proofs.References.{failures_r-plain, edges_wanted-plain}
use Rattle.rdl_verdict_laws.proofs.plain_laws.references_of_plain.Goals as goal

pub returns-clause-failures : goal.returns-clause-failures
returns-clause-failures c = failures_r-plain

pub returns-clause-edges : goal.returns-clause-edges
returns-clause-edges c = edges_wanted-plain

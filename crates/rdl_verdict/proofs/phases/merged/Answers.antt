use Rattle.std.proofs.Common.{Contains, IfOk, subst}
use Rattle.rdl_values.specs.Faults.{at_}
use Rattle.rdl_values.specs.Verdict.{IsListOf}
use Rattle.rdl_verdict.proofs.phases.merged.Goals as goal

pub returns : goal.returns
returns c = subst (λ xs. IfOk c.listed.result (λ r. IsListOf (λ rule place. Contains xs (at_ rule place)) r.items)) c.in_ok-extend_from_slice.ensures.items c.listed.ensures

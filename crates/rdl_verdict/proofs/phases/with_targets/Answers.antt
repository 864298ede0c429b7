use Rattle.std.proofs.Common.{◌++◌, Contains, subst}
use Rattle.rdl_values.specs.Faults.{at_}
use Rattle.rdl_values.specs.Verdict.{IsListOf}
use Rattle.rdl_verdict.proofs.Parts.{both, first-alone}
use Rattle.rdl_verdict.proofs.phases.with_targets.Goals as goal

pub returns-in-Ok : goal.returns-in-Ok
returns-in-Ok c = first-alone c.args.elab.now c.args.list.items c.requires.list c.in-Ok.ensures.0

pub returns-in-Ok-merged : goal.returns-in-Ok-merged
returns-in-Ok-merged c =
    let all = c.in-Ok-merged.all.items in
    let list = subst (λ ys. IsListOf (λ rule place. Contains (c.args.list.items ++ ys) (at_ rule place)) all) c.deref.ensures.value c.in-Ok-merged.ensures in
    both c.args.elab.now c.args.list.items c.in-Err-Faults.more.items all c.requires.list (rw c.in-Err-Faults.field-0-is at c.in-Err-Faults.ensures) list

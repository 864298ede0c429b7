use Rattle.std.proofs.Common.{arith, subst}
use Rattle.rdl_values.specs.Lineages.{lineages_of}
use Rattle.rdl_values.specs.Uses.{values}
use Rattle.rdl_members.specs.Found.{members_at}
use Rattle.rdl_resolve.specs.Led.{AreNumbers}
use Rattle.rdl_resolve.proofs.Stepping.{too-many, without-indices}
use Rattle.rdl_resolve.proofs.walk.step_to.Goals as goal

pub returns-then-step-most_indices : goal.returns-then-step-most_indices
returns-then-step-most_indices c = λ e around are low shown.
    let step = c.args.step.now in
    too-many e around step c.args.body c.args.members.now are low (omega (arith, c.if-step-most_indices.true, c.most_indices.ensures))

pub returns-in-None : goal.returns-in-None
returns-in-None c = λ e around are low shown.
    let step = c.args.step.now in
    without-indices e around step (members_at (lineages_of e) c.args.body) (subst (λ r. AreNumbers r (values around step.index.now)) c.in-None.is (c.in_ok-index.ensures around shown))

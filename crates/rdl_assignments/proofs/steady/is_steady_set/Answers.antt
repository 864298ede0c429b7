use Rattle.std.proofs.Common.{subst}
use Rattle.rdl_assignments.specs.Steady.{IsSteadyGiven}
use Rattle.rdl_assignments.proofs.SteadySets.{set_alike}
use Rattle.rdl_assignments.proofs.steady.is_steady_set.Goals as goal

pub returns : goal.returns
returns c = λ q v shown. set_alike c.args.text.now.same_enums v c.args.prop c.args.set.now (subst (λ f. IsSteadyGiven c.args.text.now.same_enums v f c.args.set.now.value) c.takes.ensures (c.is_steady_given.ensures q v shown))

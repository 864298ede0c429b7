use Rattle.std.proofs.Common.{◌∙◌}
use Rattle.rdl_assignments.proofs.GivenSettings.{constant_expr}
use Rattle.rdl_assignments.proofs.meaning.expr_in.Goals as goal

pub returns-in_default-clause-outcome : goal.returns-in_default-clause-outcome
returns-in_default-clause-outcome c = λ scope shown. c.constant_in.ensures.outcome scope shown ∙ constant_expr c.args.form scope c.args.place c.args.expr.now c.in_default.not-Ref

pub returns-in_default-clause-stands : goal.returns-in_default-clause-stands
returns-in_default-clause-stands c = c.constant_in.ensures.stands c.args.body

use Rattle.std.proofs.Common.{◌∙◌, ap}
use Rattle.rdl_base.specs.declared.rule.Rule.TheVariants as rules
use Rattle.rdl_values.specs.Values.{or_fails}
use Rattle.rdl_assignments.proofs.Looked.{parameter_found}
use Rattle.rdl_assignments.proofs.paths.parameter_or_reference.Goals as goal

pub returns-in-Ok-clause-outcome : goal.returns-in-Ok-clause-outcome
returns-in-Ok-clause-outcome c = λ scope shown. c.or_bad_value.ensures.outcome scope ∙ ap (λ o. or_fails o rules.P6 c.args.place) (c.value_in.ensures.outcome scope) ∙ parameter_found c.args.form scope c.args.place c.args.path.now c.args.item.now _ _ _ _ (c.in-Ok.ensures _ shown)

pub returns-in-Ok-clause-stands : goal.returns-in-Ok-clause-stands
returns-in-Ok-clause-stands c = c.or_bad_value.ensures.stands c.args.body (c.value_in.ensures.stands c.args.body)

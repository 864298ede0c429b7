use Rattle.std.proofs.Common.{◌∙◌, ap}
use Rattle.rdl_base.specs.declared.rule.Rule.TheVariants as rules
use Rattle.rdl_values.specs.Values.{or_fails, then}
use Rattle.rdl_layers.specs.Forms.{from_value}
use Rattle.rdl_assignments.proofs.meaning.constant_in.Goals as goal

pub returns-in-Ok-clause-outcome : goal.returns-in-Ok-clause-outcome
returns-in-Ok-clause-outcome c = λ scope shown. c.or_bad_value.ensures.outcome scope ∙ ap (λ o. or_fails o rules.P6 c.args.place) (c.value_in.ensures.outcome scope) ∙ ap (λ o. then o λ v. or_fails (from_value c.args.form v) rules.P6 c.args.place) (c.in-Ok.ensures _ shown)

pub returns-in-Ok-clause-stands : goal.returns-in-Ok-clause-stands
returns-in-Ok-clause-stands c = λ body. c.or_bad_value.ensures.stands body (c.value_in.ensures.stands body)

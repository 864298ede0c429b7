use Rattle.std.proofs.Common.{◌∙◌, ap, sym}
use Rattle.rdl_base.specs.declared.rule.Rule.TheVariants as rules
use Rattle.rdl_values.specs.Values.{or_fails}
use Rattle.rdl_layers.specs.Meanings.{from_given}
use Rattle.rdl_assignments.proofs.meaning.given_in.Goals as goal

pub returns-in-None-clause-outcome : goal.returns-in-None-clause-outcome
returns-in-None-clause-outcome c = λ scope shown. c.or_bad_value.ensures.outcome scope ∙ ap (λ o. or_fails o rules.P6 c.args.place) (c.value_in.ensures.outcome scope) ∙ ap (from_given c.args.form scope c.args.place) (sym c.in-None.is)

pub returns-in-None-clause-stands : goal.returns-in-None-clause-stands
returns-in-None-clause-stands c = c.or_bad_value.ensures.stands c.args.body (c.value_in.ensures.stands c.args.body)

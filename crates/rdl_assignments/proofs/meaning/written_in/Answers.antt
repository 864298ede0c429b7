use Rattle.std.proofs.Common.{◌∙◌, Some, ap, sym}
use Rattle.rdl_base.specs.declared.rule.Rule.TheVariants as rules
use Rattle.rdl_values.specs.Values.{or_fails}
use Rattle.rdl_layers.specs.Meanings.{from_given}
use Rattle.rdl_assignments.proofs.meaning.written_in.Goals as goal

pub returns-in-Word-clause-outcome : goal.returns-in-Word-clause-outcome
returns-in-Word-clause-outcome c = λ scope shown. c.or_bad_value.ensures.outcome scope ∙ ap (λ o. or_fails o rules.P6 c.args.place) (c.word_in.ensures.outcome scope) ∙ ap (λ g. from_given c.args.form scope c.args.place (Some g)) (sym c.in-Word.is)

pub returns-in-Word-clause-stands : goal.returns-in-Word-clause-stands
returns-in-Word-clause-stands c = c.or_bad_value.ensures.stands c.args.body (c.word_in.ensures.stands c.args.body)

use Rattle.std.proofs.Common.{◌∙◌, ap, sym}
use Rattle.rdl_base.specs.declared.rule.Rule.TheVariants as rules
use Rattle.rdl_values.specs.Values.{or_fails}
use Rattle.rdl_layers.specs.Meanings.{from_path}
use Rattle.rdl_assignments.proofs.paths.path_in.Goals as goal

pub returns-in-Side-clause-outcome : goal.returns-in-Side-clause-outcome
returns-in-Side-clause-outcome c = λ scope shown. c.or_bad_value.ensures.outcome scope ∙ ap (λ o. or_fails o rules.P6 c.args.place) (c.side_of.ensures.outcome scope) ∙ ap (λ f. from_path f scope c.args.place c.args.path.now c.args.item.now) (sym c.in-Side.is)

pub returns-in-Side-clause-stands : goal.returns-in-Side-clause-stands
returns-in-Side-clause-stands c = c.or_bad_value.ensures.stands c.args.body (c.side_of.ensures.stands c.args.body)

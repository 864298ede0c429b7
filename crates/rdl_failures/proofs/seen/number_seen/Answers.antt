use Rattle.std.proofs.Common.{◌∙◌, ap}
use Rattle.rdl_values.specs.Chained.{chained_in}
use Rattle.rdl_values.specs.Values.{as_number, or_fails, start, then}
use Rattle.rdl_base.specs.declared.rule.Rule.TheVariants as rules
use Rattle.rdl_failures.proofs.seen.number_seen.Goals as goal

pub returns : goal.returns
returns c = λ around h. c.number_along.ensures ∙ ap (λ o. then o λ v. or_fails (as_number v) rules.V2 (start c.args.expr.now)) (c.values_by_look_ups.ensures (chained_in c.args.visible.now) around h.parameters h.entries c.args.expr.now)

use Rattle.std.proofs.Common.{◌∙◌}
use Rattle.rdl_values.specs.Chained.{chained_in}
use Rattle.rdl_failures.proofs.seen.value_seen.Goals as goal

pub returns : goal.returns
returns c = λ around h. c.eval_along.ensures ∙ c.values_by_look_ups.ensures (chained_in c.args.visible.now) around h.parameters h.entries c.args.expr.now

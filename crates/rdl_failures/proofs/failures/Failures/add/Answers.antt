use Rattle.std.proofs.Common.{◌∙◌, ap}
use Rattle.rdl_values.specs.Verdict.{with}
use Rattle.rdl_failures.proofs.Sets.{inserted}
use Rattle.rdl_failures.proofs.failures.Failures.add.Goals as goal

pub returns-clause-added : goal.returns-clause-added
returns-clause-added c = c.in_ok-insert.ensures.keys ∙ inserted _ c.order_of_faults.ensures c.args.fault c.self.inside.set.keys ∙ ap (with c.args.fault) c.self.view_is

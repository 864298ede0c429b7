use Rattle.std.proofs.Common.{◌∙◌, ap, is_some}
use Rattle.rdl_targets.proofs.Walking.{may-listed}
use Rattle.rdl_targets.proofs.trails.Trails.may_lead.Goals as goal

pub returns : goal.returns
returns c = λ e node rows h. may-listed e node c.args.path c.args.name.now c.args.wanted.now c.is_some.result c.args.self.now c.spread.new.self (c.is_some.ensures ∙ ap is_some c.first.ensures) (c.in_ok-spread.ensures e node rows h)

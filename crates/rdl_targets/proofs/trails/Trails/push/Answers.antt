use Rattle.std.proofs.Common.{◌∙◌, refl}
use Rattle.rdl_targets.proofs.Walking.{pushed}
use Rattle.rdl_targets.proofs.trails.Trails.push.Goals as goal

pub returns : goal.returns
returns c = λ e node before h was some leads.
    pushed e node c.in-Ok.number c.args.from c.args.name.now c.args.wanted.now c.in_ok-keep.ensures.0 before c.args.nodes c.args.self.now
    (record { sets = c.push.new.self; steps = c.keep.new.self; inside = c.args.self.now.inside; spread = c.args.self.now.spread })
    (c.in-Ok.ensures.1 ∙ (c.len.ensures ∙ c.args.self.now.sets.ok.0)) c.in_ok-push.ensures.items c.in_ok-keep.ensures.1 refl refl h was some leads

use Rattle.std.proofs.lemmas.Result.{IfOk-weaker}
use Rattle.gen_scene.proofs.Counts.{can_low, low_is, seen_as, width_fits}
use Rattle.gen_scene.proofs.Sources.{own_refs}
use Rattle.gen_scene.proofs.scene.Scene.low.Goals as goal

pub limit-requires-clause-wide : goal.limit-requires-clause-wide
limit-requires-clause-wide c = width_fits c.args.self.now.base.now.block.now c.args.net.now c.args.self.now.base.now c.args.number c.args.field.now c.requires.base c.requires.here

pub limit-requires-clause-can : goal.limit-requires-clause-can
limit-requires-clause-can c = can_low c.args.net.now c.args.self.now c.args.number c.args.field.now c.requires.base c.requires.here c.in-Some.count c.in-Some.is (own_refs c.args.net.now c.args.self.now c.args.number c.args.field.now c.requires).limits

pub returns-in-Some-clause-worth : goal.returns-in-Some-clause-worth
returns-in-Some-clause-worth c = IfOk-weaker c.limit.result _ _ (λ o h. seen_as c.args.self.now.base.now.block.now c.args.self.now.base.now.inlet c.limit.new.net o c.args.field.now.width _ _ (λ n v. low_is c.args.net.now c.args.self.now c.args.number c.args.field.now c.requires.base c.requires.here c.in-Some.count c.in-Some.is v) h) c.limit.ensures.worth

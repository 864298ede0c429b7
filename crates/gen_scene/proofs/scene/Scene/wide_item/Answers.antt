use Rattle.std.proofs.lemmas.Result.{IfOk-weaker}
use Rattle.gen_scene.proofs.Counts.{wide_worth}
use Rattle.gen_scene.proofs.scene.Scene.wide_item.Goals as goal

pub returns-clause-worth : goal.returns-clause-worth
returns-clause-worth c = IfOk-weaker c.widened.result _ _ (λ id node. wide_worth c.args.net.now c.widened.new.net c.args.self.now c.args.item c.args.width c.node-id.result id c.requires.has c.node-id.ensures c.widened.ensures.older node) c.widened.ensures.node

use Rattle.gen_scene.proofs.Counts.{seen_some}
use Rattle.gen_scene.proofs.scene.Scene.limit.Goals as goal

pub returns-in_ok-id-in-Some-clause-worth : goal.returns-in_ok-id-in-Some-clause-worth
returns-in_ok-id-in-Some-clause-worth c = rw c.in-Some.is (seen_some c.args.self.now.base.now.block.now c.args.self.now.base.now.inlet c.level.new.net c.in_ok-id-in-Some.id c.args.width c.in-Some.level c.in_ok-id-in-Some.ensures.worth)

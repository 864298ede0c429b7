use Rattle.gen_scene.proofs.scene.Scene.level.Goals as goal

pub returns-in-Item-clause-worth : goal.returns-in-Item-clause-worth
returns-in-Item-clause-worth c = rw c.in-Item.is c.wide_item.ensures.worth

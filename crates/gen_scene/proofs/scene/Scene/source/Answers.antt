use Rattle.gen_scene.proofs.Sources.{source_is}
use Rattle.gen_scene.proofs.scene.Scene.source.Goals as goal

pub returns : goal.returns
returns c net h = source_is net c.args.self.now c.args.number c.args.field.now h c.given.result c.given.ensures

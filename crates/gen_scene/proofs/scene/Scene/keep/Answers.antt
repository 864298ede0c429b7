use Rattle.gen_scene.proofs.Sources.{keep_is}
use Rattle.gen_scene.proofs.scene.Scene.keep.Goals as goal

pub returns : goal.returns
returns c net number h = rw c.mask.ensures (keep_is net c.args.self.now number c.args.field.now h)

use Rattle.gen_scene.proofs.Sources.{own_refs}
use Rattle.gen_scene.proofs.scene.Scene.up.Goals as goal

pub counted_up-requires-clause-refs : goal.counted_up-requires-clause-refs
counted_up-requires-clause-refs c = (own_refs c.args.net.now c.args.self.now c.args.number c.args.field.now c.requires).count
